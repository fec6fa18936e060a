-- Operators, which are ranges that join no others, and the versions below their members.
use Rattle.std.specs.Prelude.{Bool, true, false}
use Rattle.std.specs.Ordering.{is_le, is_lt}
use Rattle.plan_types.specs.Members.{order}
use Rattle.plan_types.specs.declared.range.Range.{Range}
use Rattle.plan_types.specs.declared.range.Range.TheOpen.{Range-F, Any, Nothing, Equal, Prefix, AtLeast, Above, AtMost, Below, Major, Both, Either}
use Rattle.plan_types.specs.declared.range.Range.TheFolds.{fold-Range}
use Rattle.plan_types.specs.declared.version.Version.{Version}
use Rattle.version_range.specs.Cuts.{IsSplit}
use Rattle.version_range.specs.declared.merge.Connective.{Connective}

-- whether a layer of a range joins no others
abbrev pub operator_step : Range-F Bool → Bool
operator_step Any = true
operator_step Nothing = true
operator_step (Equal x) = true
operator_step (Prefix x) = true
operator_step (AtLeast x) = true
operator_step (Above x) = true
operator_step (AtMost x) = true
operator_step (Below x) = true
operator_step (Major x) = true
operator_step (Both left right) = false
operator_step (Either left right) = false

-- whether a range joins no others
abbrev pub is_operator : Range → Bool
is_operator = fold-Range Bool operator_step

-- the range joins these two
abbrev pub IsJoin : Range → Range → Range → Type 0
IsJoin range left right = (joint : Connective) × IsSplit joint range left right

-- whether a version lies below the first member of a layer
abbrev pub before_step : Range-F (Version → Bool) → Version → Bool
before_step Any v = false
before_step Nothing v = false
before_step (Equal x) v = is_lt (order v.parts x.parts)
before_step (Prefix x) v = is_lt (order v.parts x.parts)
before_step (AtLeast x) v = is_lt (order v.parts x.parts)
before_step (Above x) v = is_le (order v.parts x.parts)
before_step (AtMost x) v = false
before_step (Below x) v = false
before_step (Major x) v = is_lt (order v.parts x.parts)
before_step (Both left right) v = false
before_step (Either left right) v = false

-- whether a version lies below the first member of an operator
abbrev pub before : Range → Version → Bool
before = fold-Range (Version → Bool) before_step
