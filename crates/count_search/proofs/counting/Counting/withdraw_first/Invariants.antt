-- the rest of the variables have their next ranks
use Rattle.std.proofs.Common.{ℕ, ◌≤◌, List, take}
use Rattle.qualified_goals.specs.declared.variable.Var.{Var}
use Rattle.choice_problem.specs.declared.problem.Choice.{Choice}
use Rattle.count_search.specs.Ranks.{AreBetween, raised_all}
use Rattle.count_search.proofs.counting.Counting.withdraw_first.Given as goal

abbrev pub invariant-loop-left : goal.invariant-loop-left
invariant-loop-left l = record {
  within : l.left ≤ l.count;
  back : (scores : Var → ℕ) (trail : List Choice) → AreBetween l.initial.self.records l.initial.self.ranks scores (raised_all (take l.count l.vars) scores) trail
      → AreBetween l.self.records l.self.ranks scores (raised_all (take l.left l.vars) scores) trail;
}

abbrev pub decreases-loop-left : goal.decreases-loop-left
decreases-loop-left l = l.left
