-- The goal order of variables by numbers, and their equality.
use Rattle.std.specs.Prelude.{Bool, true, false}
use Rattle.std.specs.Ordering.{nat_cmp, ordering_then, is_eq, is_lt}
use Rattle.std.specs.declared.cmp.Ordering.{Ordering}
use Rattle.std.specs.declared.cmp.Ordering.TheVariants.{Less, Equal, Greater}
use Rattle.qualified_goals.specs.declared.variable.Qual.{Qual}
use Rattle.qualified_goals.specs.declared.variable.Qual.TheVariants.{Top, Setup, Exe}
use Rattle.qualified_goals.specs.declared.variable.Part.{Part}
use Rattle.qualified_goals.specs.declared.variable.Part.TheVariants.{Package, Flag, Tests, Benches}
use Rattle.qualified_goals.specs.declared.variable.Var.{Var}

-- top level, then setups by package, then tools by package and tool
abbrev pub qual_cmp : Qual → Qual → Ordering
qual_cmp Top Top = Equal
qual_cmp Top (Setup q) = Less
qual_cmp Top (Exe q u) = Less
qual_cmp (Setup p) Top = Greater
qual_cmp (Setup p) (Setup q) = nat_cmp p q
qual_cmp (Setup p) (Exe q u) = Less
qual_cmp (Exe p t) Top = Greater
qual_cmp (Exe p t) (Setup q) = Greater
qual_cmp (Exe p t) (Exe q u) = ordering_then (nat_cmp p q) (nat_cmp t u)

-- the package, then flags by number, then tests, then benchmarks
abbrev pub part_cmp : Part → Part → Ordering
part_cmp Package Package = Equal
part_cmp Package q = Less
part_cmp (Flag m) Package = Greater
part_cmp (Flag m) (Flag n) = nat_cmp m n
part_cmp (Flag m) Tests = Less
part_cmp (Flag m) Benches = Less
part_cmp Tests Package = Greater
part_cmp Tests (Flag n) = Greater
part_cmp Tests Tests = Equal
part_cmp Tests Benches = Less
part_cmp Benches Benches = Equal
part_cmp Benches q = Greater

-- the goal order
abbrev pub var_cmp : Var → Var → Ordering
var_cmp v w = ordering_then (qual_cmp v.qual w.qual) (ordering_then (nat_cmp v.package w.package) (part_cmp v.part w.part))

-- whether two variables are equal
abbrev pub same_var : Var → Var → Bool
same_var v w = is_eq (var_cmp v w)

-- whether a variable is before another
abbrev pub is_before : Var → Var → Bool
is_before v w = is_lt (var_cmp v w)
