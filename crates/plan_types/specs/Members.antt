-- The order of versions, and the members of a range.
use Rattle.std.specs.Prelude.{ℕ, ◌+◌, Bool, true, false, ◌&&◌, ◌||◌, nat_eq, List, [], ◌∷◌}
use Rattle.std.specs.declared.cmp.Ordering.{Ordering}
use Rattle.std.specs.Ordering.{nat_cmp, is_eq, is_lt, is_le, is_gt, is_ge}
use Rattle.std.specs.Cmp.Lexicographic.{slice_cmp}
use Rattle.std.specs.List.{starts_with}
use Rattle.plan_types.specs.declared.version.Version.{Version}
use Rattle.plan_types.specs.declared.range.Range.{Range}
use Rattle.plan_types.specs.declared.range.Range.TheOpen.{Range-F, Any, Nothing, Equal, Prefix, AtLeast, Above, AtMost, Below, Major, Both, Either}
use Rattle.plan_types.specs.declared.range.Range.TheFolds.{fold-Range}

-- the lexicographic order of lists of numbers: 1.0 is below 1.0.0
abbrev pub order : List ℕ → List ℕ → Ordering
order = slice_cmp nat_cmp

-- the exclusive end of a major version: the second number plus one, where a missing one is 0
abbrev pub major_end : List ℕ → List ℕ
major_end [] = []
major_end (a ∷ []) = a ∷ 1 ∷ []
major_end (a ∷ b ∷ ns) = a ∷ (b + 1) ∷ []

-- the members of one layer of a range, from those of its parts
abbrev pub members_step : Range-F (Version → Bool) → Version → Bool
members_step Any v = true
members_step Nothing v = false
members_step (Equal x) v = is_eq (order v.parts x.parts)
members_step (Prefix x) v = starts_with nat_eq v.parts x.parts
members_step (AtLeast x) v = is_ge (order v.parts x.parts)
members_step (Above x) v = is_gt (order v.parts x.parts)
members_step (AtMost x) v = is_le (order v.parts x.parts)
members_step (Below x) v = is_lt (order v.parts x.parts)
members_step (Major x) v = is_ge (order v.parts x.parts) && is_lt (order v.parts (major_end x.parts))
members_step (Both left right) v = left v && right v
members_step (Either left right) v = left v || right v

-- whether a version is in a range
abbrev pub members : Range → Version → Bool
members = fold-Range (Version → Bool) members_step
