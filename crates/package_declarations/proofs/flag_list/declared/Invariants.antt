use Rattle.std.proofs.Common.{◌≡◌, ◌++◌, drop}
use Rattle.package_declarations.specs.Flags.{declared_flags}
use Rattle.package_declarations.proofs.flag_list.declared.Given as goal

abbrev pub invariant-loop-section : goal.invariant-loop-section
invariant-loop-section l = l.flags.items ++ declared_flags (drop l.section-index l.sections) ≡ declared_flags l.sections
