-- those of the demands so far that the owner owns
use Rattle.std.proofs.Common.{◌≡◌, take}
use Rattle.std.specs.List.{filter}
use Rattle.choice_problem.specs.Written.{begins_with}
use Rattle.choice_problem.proofs.written.owned.Given as goal

abbrev pub invariant-loop-demand : goal.invariant-loop-demand
invariant-loop-demand l = l.found ≡ filter (λ d. begins_with l.owner d.when) (take l.demand-index l.demands)
