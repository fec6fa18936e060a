use Rattle.std.proofs.Common.{◌∙◌, List, ap, find}
use Rattle.choice_problem.specs.declared.problem.Demand.{Demand}
use Rattle.choice_problem.specs.Active.{reason, asks_for, vars_of_first}
use Rattle.choice_problem.specs.ConflictSet.{set_of}
use Rattle.validation.specs.View.{View}
use Rattle.validation.proofs.state.State.reason.Goals as goal

pub returns : goal.returns
unfolding reason
returns c p stands =
    c.in_ok-set.ensures ∙ ap (λ (s : View). set_of (vars_of_first (find (asks_for c.args.v) s.active))) c.self.view_is
    ∙ ap (λ (l : List Demand). set_of (vars_of_first (find (asks_for c.args.v) l))) (ap (λ (s : View). s.active) stands.same)
