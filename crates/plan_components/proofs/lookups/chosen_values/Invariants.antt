-- the values of the choices so far
use Rattle.std.proofs.Common.{◌≡◌, take}
use Rattle.qualified_goals.specs.declared.variable.Var.{Var}
use Rattle.choice_problem.specs.Table.{entry}
use Rattle.choice_problem.specs.Trail.{value_in}
use Rattle.plan_components.proofs.lookups.chosen_values.Given as goal

abbrev pub invariant-loop-choice : goal.invariant-loop-choice
invariant-loop-choice l = (v : Var) → entry l.values v ≡ value_in (take l.choice-index l.trail) v
