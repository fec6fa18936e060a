use Rattle.std.proofs.Common.{◌≡◌, List, MatchOption, false, subst, Some}
use Rattle.std.specs.List.{slice_get}
use Rattle.qualified_goals.specs.declared.variable.Var.{Var}
use Rattle.choice_problem.specs.ConflictSet.{has}
use Rattle.goal_links.proofs.VariableKeys.{found}
use Rattle.goal_links.proofs.vars.Vars.find.Goals as goal

pub returns : goal.returns
returns c =
    subst (λ (l : List Var). MatchOption c.get_index_of.result (has l c.args.v ≡ false) (λ n. slice_get l n ≡ Some c.args.v)) c.self.view_is
    (found c.self.inside.keys.keys c.args.v c.get_index_of.result c.get_index_of.ensures.index c.get_index_of.ensures.found)
