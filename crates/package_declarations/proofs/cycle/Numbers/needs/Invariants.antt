use Rattle.std.proofs.Common.{◌≡◌, map, take}
use Rattle.package_declarations.specs.Numbers.{number_at, needs_by}
use Rattle.package_declarations.proofs.cycle.Numbers.needs.Given as goal

abbrev pub invariant-loop-component : goal.invariant-loop-component
invariant-loop-component l = l.needs.items ≡ map (needs_by (number_at l.self)) (take l.component-index l.components)
