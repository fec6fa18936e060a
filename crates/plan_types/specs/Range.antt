-- The pending right operands while a range is copied.
use Rattle.std.specs.Prelude.{List, [], ◌∷◌}
use Rattle.plan_types.specs.declared.range.Range.{Range}
use Rattle.plan_types.specs.declared.range.Range.TheVariants.{Both, Either}
use Rattle.plan_types.specs.declared.range.Joined.{Joined}
use Rattle.plan_types.specs.declared.range.Joined.TheVariants as joined

-- a left operand joined to a pending right operand
abbrev pub joined_to : Range → Joined → Range
joined_to left (joined.Both right) = Both left right.now
joined_to left (joined.Either right) = Either left right.now

-- the range from its leftmost operand and its pending right operands; the last pending one is joined first
abbrev pub rebuilt : List Joined → Range → Range
rebuilt [] first = first
rebuilt (joined ∷ inner) first = joined_to (rebuilt inner first) joined
