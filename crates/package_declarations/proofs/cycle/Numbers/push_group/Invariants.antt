use Rattle.std.proofs.Common.{◌≡◌, ◌++◌, drop, flat_map}
use Rattle.package_declarations.specs.Numbers.{number_at, targets_by}
use Rattle.package_declarations.proofs.cycle.Numbers.push_group.Given as goal

abbrev pub invariant-loop-dep : goal.invariant-loop-dep
invariant-loop-dep l = l.found ++ flat_map (targets_by (number_at l.self)) (drop l.dep-index l.dep-items) ≡ l.fn.found ++ flat_map (targets_by (number_at l.self)) l.group.deps
