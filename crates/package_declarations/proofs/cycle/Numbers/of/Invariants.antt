use Rattle.std.proofs.Common.{take}
use Rattle.package_declarations.specs.Numbers.{Numbered}
use Rattle.package_declarations.proofs.cycle.Numbers.of.Given as goal

abbrev pub invariant-loop-number : goal.invariant-loop-number
invariant-loop-number l = Numbered l.table.names l.table.numbers.items (take l.number l.components)
