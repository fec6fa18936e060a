-- the variables so far have their next ranks
use Rattle.std.proofs.Common.{ℕ, take}
use Rattle.qualified_goals.specs.declared.variable.Var.{Var}
use Rattle.count_search.specs.Ranks.{AreBetween, AreScored, raised_all}
use Rattle.count_search.proofs.counting.Counting.prepare_all.Given as goal

abbrev pub invariant-loop-place : goal.invariant-loop-place
invariant-loop-place l =
    (scores : Var → ℕ) → AreScored l.initial.self.records l.initial.self.ranks scores l.trail
    → AreBetween l.self.records l.self.ranks scores (raised_all (take l.place l.vars) scores) l.trail
