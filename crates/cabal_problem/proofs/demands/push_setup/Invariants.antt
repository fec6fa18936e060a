-- the dependencies so far
use Rattle.std.proofs.Common.{◌≡◌, ◌++◌, map, take}
use Rattle.cabal_problem.specs.Rows.{setup_demand_to}
use Rattle.cabal_problem.proofs.demands.push_setup.Given as goal

abbrev pub invariant-loop-target : goal.invariant-loop-target
invariant-loop-target l = l.found ≡ l.fn.found ++ map (setup_demand_to l.owner) (take l.target-index l.targets)
