-- Sorted cuts, and relaxed ranges.
use Rattle.std.specs.Prelude.{◌≡◌, ℕ, ◌+◌, ◌<◌, Bool, true, false, not, ◌&&◌, ◌||◌, if◌then◌else◌, ◌⊎◌, List, [], ◌∷◌, ◌++◌, length, IsTrue, ◌↔◌}
use Rattle.std.specs.Ordering.{is_lt}
use Rattle.plan_types.specs.declared.version.Version.{Version}
use Rattle.plan_types.specs.declared.range.Range.{Range, size-Range}
use Rattle.plan_types.specs.declared.range.Range.TheOpen as layer
use Rattle.plan_types.specs.declared.range.Range.TheFolds.{fold-Range}
use Rattle.plan_types.specs.declared.range.Range.TheVariants as ranges
use Rattle.plan_types.specs.Members.{order, members}
use Rattle.version_range.specs.Version.{has_versions}
use Rattle.version_range.specs.declared.merge.Connective.{Connective}
use Rattle.version_range.specs.declared.merge.Connective.TheVariants.{Both, Either}

-- whether a version is below another
abbrev pub is_below : Version → Version → Bool
is_below v w = is_lt (order v.parts w.parts)

-- a version has at least one number
abbrev pub HasNumbers : Version → Type 0
HasNumbers v = 0 < length v.parts

-- Whether a version is inside half-open intervals with these rising ends. The first interval begins at the first end
-- and stops below the second; the next begins at the third; the last may have no end. So a version is inside iff the
-- number of ends at or below it is odd.
abbrev pub inside : List Version → Version → Bool
inside [] v = false
inside (e ∷ es) v = if is_below v e then inside es v else not (inside es v)

-- whether all of these are above a version
abbrev pub all_above : Version → List Version → Bool
all_above e [] = true
all_above e (x ∷ xs) = is_below e x && all_above e xs

-- whether the versions rise strictly
abbrev pub rises : List Version → Bool
rises [] = true
rises (x ∷ xs) = all_above x xs && rises xs

-- the least list of numbers, below all versions
abbrev pub no_numbers : Version
no_numbers = record { parts = [] }

-- the invariant of cuts: the ends rise strictly, and have numbers
abbrev pub are_ends : List Version → Bool
are_ends ends = rises (no_numbers ∷ ends)

-- the ends of a set: the versions that pass a test
abbrev pub AreEndsOf : (Version → Bool) → List Version → Type 0
AreEndsOf test ends = (are_ends ends ≡ true) × ((v : Version) → HasNumbers v → inside ends v ≡ test v)

-- `&&` or `||` of two tests
abbrev pub join : Connective → Bool → Bool → Bool
join Both a b = a && b
join Either a b = a || b

-- a test, negated if the first argument is true
abbrev pub flip : Bool → Bool → Bool
flip true b = not b
flip false b = b

-- exclusive or
abbrev pub not_same : Bool → Bool → Bool
not_same a b = flip a b

-- the ends, with e appended if the first argument is true
abbrev pub pushed : Bool → List Version → Version → List Version
pushed true ends e = ends ++ e ∷ []
pushed false ends e = ends

-- xs remains of the ends after e is removed from their front; without a removal, xs is the ends
abbrev pub Takes : Bool → Version → List Version → List Version → Type 0
Takes true e ends xs = ends ≡ e ∷ xs
Takes false e ends xs = ends ≡ xs

-- one step of a merge: e is the least end of both lists, and is removed from each list that begins with it
pub record IsStep (first second : List Version) (e : Version) (from_first : Bool) (xs : List Version) (from_second : Bool) (ys : List Version) : Type 0 where
  pub first_takes : Takes from_first e first xs
  pub second_takes : Takes from_second e second ys
  pub first_above : all_above e xs ≡ true
  pub second_above : all_above e ys ≡ true
  pub one : (from_first || from_second) ≡ true
  pub shorter : length xs + length ys < length first + length second

-- whether a version is in all of the cuts (`Both`), or in some of them (`Either`)
abbrev pub joined : Connective → List (List Version) → Version → Bool
joined Both [] v = true
joined Either [] v = false
joined joint (ends ∷ more) v = join joint (inside ends v) (joined joint more v)

-- two ranges under this operator
abbrev pub joined_range : Connective → Range → Range → Range
joined_range Both left right = ranges.Both left right
joined_range Either left right = ranges.Either left right

-- whether one layer of a range has this operator
abbrev pub joined_step : Connective → layer.Range-F Bool → Bool
joined_step joint layer.Any = false
joined_step joint layer.Nothing = false
joined_step joint (layer.Equal x) = false
joined_step joint (layer.Prefix x) = false
joined_step joint (layer.AtLeast x) = false
joined_step joint (layer.Above x) = false
joined_step joint (layer.AtMost x) = false
joined_step joint (layer.Below x) = false
joined_step joint (layer.Major x) = false
joined_step Both (layer.Both left right) = true
joined_step Either (layer.Both left right) = false
joined_step Both (layer.Either left right) = false
joined_step Either (layer.Either left right) = true

-- whether a range has this operator at its top
abbrev pub is_joined : Connective → Range → Bool
is_joined joint = fold-Range Bool (joined_step joint)

-- The range has this operator and operands; with the consequences for members, versions and sizes.
pub record IsSplit (joint : Connective) (range left right : Range) : Type 0 where
  pub is : range ≡ joined_range joint left right
  pub members_are : (v : Version) → members range v ≡ join joint (members left v) (members right v)
  pub versions_are : has_versions range ≡ true → (has_versions left ≡ true) × (has_versions right ≡ true)
  pub left_smaller : size-Range left < size-Range range
  pub right_smaller : size-Range right < size-Range range

-- some member is below v
abbrev pub SomeBelow : (Version → Bool) → Version → Type 0
SomeBelow has v = (w : Version) × HasNumbers w × IsTrue (has w) × IsTrue (is_below w v)

-- some member is above v
abbrev pub SomeAbove : (Version → Bool) → Version → Type 0
SomeAbove has v = (w : Version) × HasNumbers w × IsTrue (has w) × IsTrue (is_below v w)

-- above some member, and no member is above it
abbrev pub IsNewer : (Version → Bool) → Version → Type 0
IsNewer has v = SomeBelow has v × (SomeAbove has v → ⊥)

-- below some member, and no member is below it
abbrev pub IsOlder : (Version → Bool) → Version → Type 0
IsOlder has v = SomeAbove has v × (SomeBelow has v → ⊥)

-- The relaxed range: the members, the newer versions if `newer` is true, and the older ones if `older` is true.
abbrev pub IsRelaxed : Bool → Bool → (Version → Bool) → Version → Type 0
IsRelaxed newer older has v = IsTrue (has v) ⊎ (IsTrue newer × IsNewer has v) ⊎ (IsTrue older × IsOlder has v)

-- the second set is the first one, relaxed
abbrev pub Relaxes : Bool → Bool → (Version → Bool) → (Version → Bool) → Type 0
Relaxes newer older has relaxed = (v : Version) → HasNumbers v → IsTrue (relaxed v) ↔ IsRelaxed newer older has v

-- the least list of numbers above all lists with this prefix
abbrev pub prefix_end : List ℕ → List ℕ
prefix_end [] = []
prefix_end (n ∷ []) = (n + 1) ∷ []
prefix_end (n ∷ m ∷ ns) = n ∷ prefix_end (m ∷ ns)
