use Rattle.std.proofs.Common.{◌≡◌, ◌++◌, drop, flat_map}
use Rattle.plan_types.specs.Guarded.{GuardedDep, in_groups}
use Rattle.package_declarations.specs.Numbers.{needs_by, number_at, targets_by}
use Rattle.package_declarations.proofs.cycle.Numbers.needs_of.Given as goal

abbrev pub invariant-loop-group : goal.invariant-loop-group
invariant-loop-group l =
    l.found ++ flat_map (λ (guarded : GuardedDep). targets_by (number_at l.self) guarded.dep) (in_groups (drop l.group-index l.group-items)) ≡ needs_by (number_at l.self) l.component
