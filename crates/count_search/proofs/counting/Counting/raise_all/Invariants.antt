-- the variables so far have their next scores
use Rattle.std.proofs.Common.{ℕ, List, take}
use Rattle.qualified_goals.specs.declared.variable.Var.{Var}
use Rattle.choice_problem.specs.declared.problem.Choice.{Choice}
use Rattle.count_search.specs.Ranks.{AreBetween, raised_all}
use Rattle.count_search.proofs.counting.Counting.raise_all.Given as goal

abbrev pub invariant-loop-place : goal.invariant-loop-place
invariant-loop-place l =
    (scores : Var → ℕ) (trail : List Choice) → AreBetween l.initial.self.records l.initial.self.ranks scores (raised_all l.vars scores) trail
    → AreBetween l.self.records l.self.ranks (raised_all (take l.place l.vars) scores) (raised_all l.vars scores) trail
