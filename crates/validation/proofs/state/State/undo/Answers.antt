use Rattle.std.proofs.Common.{◌∙◌, sym, ap, subst}
use Rattle.validation.specs.View.{View, Represents}
use Rattle.validation.proofs.Backs.{stands-undone}
use Rattle.validation.proofs.state.State.undo.Goals as goal

pub returns-clause-stands : goal.returns-clause-stands
returns-clause-stands c p stands =
    stands-undone p c.self.inside.stack c.undo.new.self (subst (λ (s : View). Represents p s) (sym c.self.view_is) stands)
    (λ none. c.requires (ap (λ (s : View). s.trail) (sym c.self.view_is) ∙ none)) c.undo.ensures
