-- the demands so far
use Rattle.std.proofs.Common.{◌≡◌, take}
use Rattle.choice_problem.proofs.written.copied_demands.Given as goal

abbrev pub invariant-loop-demand : goal.invariant-loop-demand
invariant-loop-demand l = l.copy ≡ take l.demand-index l.demands
