use Rattle.std.proofs.Common.{◌≡◌, take, filter}
use Rattle.choice_problem.specs.Twins.{are_twins}
use Rattle.demand_agreement.proofs.twins.twins_among.Given as goal

abbrev pub invariant-loop-c : goal.invariant-loop-c
invariant-loop-c l = l.found.items ≡ filter (are_twins l.owner) (take l.c-index l.choices)
