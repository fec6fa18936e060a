use Rattle.std.proofs.Common.{List, ◌∷◌, ◌++◌, [], ap, ◌∙◌}
use Rattle.qualified_goals.specs.declared.variable.Var.{Var}
use Rattle.choice_problem.specs.ConflictSet.{has}
use Rattle.goal_links.proofs.VariableKeys.{added}
use Rattle.goal_links.proofs.vars.Vars.add.Goals as goal

pub returns-clause-ok : goal.returns-clause-ok
returns-clause-ok c =
    added c.self.inside.keys.keys c.insert.new.self.keys c.args.v (ap (λ (l : List Var). has l c.args.v) c.self.view_is ∙ c.requires) c.in_ok-insert.ensures.keys
    ∙ ap (λ (l : List Var). l ++ c.args.v ∷ []) c.self.view_is
