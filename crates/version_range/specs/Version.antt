-- The text of a version.
use Rattle.std.specs.Prelude.{◌≡◌, ◌≢◌, IsTrue, Option, Some, None, ℕ, ◌+◌, ◌-◌, ◌*◌, ◌^◌, ◌<◌, Bool, true, false, ◌&&◌, nat_lt, List, [], ◌∷◌, ◌++◌}
use Rattle.std.specs.Char.{is_ascii_digit}
use Rattle.std.specs.Fmt.{decimal}
use Rattle.plan_types.specs.declared.version.Version.{Version}
use Rattle.plan_types.specs.declared.range.Range.{Range}
use Rattle.plan_types.specs.declared.range.Range.TheOpen.{Range-F, Any, Nothing, Equal, Prefix, AtLeast, Above, AtMost, Below, Major, Both, Either}
use Rattle.plan_types.specs.declared.range.Range.TheFolds.{fold-Range}

-- a number of at most nine digits
abbrev pub IsNumber : ℕ → Type 0
IsNumber n = n < 10 ^ 9

-- the numbers of a version: one or more
abbrev pub IsVersion : List ℕ → Type 0
IsVersion [] = ⊥
IsVersion (n ∷ []) = IsNumber n
IsVersion (n ∷ m ∷ ns) = IsNumber n × IsVersion (m ∷ ns)

-- the numbers, joined by points
abbrev pub version_text : List ℕ → List ℕ
version_text [] = []
version_text (n ∷ []) = decimal n
version_text (n ∷ m ∷ ns) = decimal n ++ 46 ∷ version_text (m ∷ ns)

-- each number with a point before it
abbrev pub led_by_points : List ℕ → List ℕ
led_by_points [] = []
led_by_points (n ∷ ns) = 46 ∷ (decimal n ++ led_by_points ns)

-- whether the first byte is a digit
abbrev pub begins_with_digit : List ℕ → Bool
begins_with_digit [] = false
begins_with_digit (b ∷ bs) = is_ascii_digit b

-- the value of the digits of n followed by these
abbrev pub number_after : ℕ → List ℕ → ℕ
number_after n [] = n
number_after n (b ∷ bs) = number_after (10 * n + (b - 48)) bs

-- the same, as a test
abbrev pub is_version : List ℕ → Bool
is_version [] = false
is_version (n ∷ []) = nat_lt n (10 ^ 9)
is_version (n ∷ m ∷ ns) = nat_lt n (10 ^ 9) && is_version (m ∷ ns)

-- the test of one layer of a range, from those of its parts
abbrev pub versions_step : Range-F Bool → Bool
versions_step Any = true
versions_step Nothing = true
versions_step (Equal x) = is_version x.parts
versions_step (Prefix x) = is_version x.parts
versions_step (AtLeast x) = is_version x.parts
versions_step (Above x) = is_version x.parts
versions_step (AtMost x) = is_version x.parts
versions_step (Below x) = is_version x.parts
versions_step (Major x) = is_version x.parts
versions_step (Both left right) = left && right
versions_step (Either left right) = left && right

-- all versions in the range are well-formed
abbrev pub has_versions : Range → Bool
has_versions = fold-Range Bool versions_step

-- the version of a text, or none if the text is no version
abbrev pub IsVersionOf : List ℕ → Option Version → Type 0
IsVersionOf text None = (parts : List ℕ) → IsTrue (is_version parts) → text ≢ version_text parts
IsVersionOf text (Some version) = IsTrue (is_version version.parts) × (text ≡ version_text version.parts)
