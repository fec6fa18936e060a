use Rattle.std.proofs.Common.{◌∙◌, sym, ap}
use Rattle.std.specs.List.{slice_get}
use Rattle.choice_problem.specs.ConflictSet.{has}
use Rattle.goal_links.specs.Mentions.{Mentioned}
use Rattle.choice_stack.proofs.OpenVariables.{found-some, found-at}
use Rattle.choice_stack.proofs.goals.Goals.entry.Goals as goal

pub unwrap-requires : goal.unwrap-requires
unwrap-requires c =
    found-some c.self.inside.mentions.row c.args.v c.self.invariant (ap (λ (m : Mentioned). has m.row.linked c.args.v) c.self.view_is ∙ c.requires) c.entry_of.result c.entry_of.ensures

pub returns : goal.returns
returns c =
    ap (λ (m : Mentioned). slice_get m.row.vars c.unwrap.result) (sym c.self.view_is)
    ∙ found-at c.self.inside.mentions.row.vars c.args.v c.entry_of.result c.unwrap.result c.entry_of.ensures c.unwrap.ensures
