-- The text of a range.
use Rattle.std.specs.Prelude.{◌≡◌, ℕ, ◌+◌, ◌-◌, ◌<◌, max, ◌==◌, cond, List, [], ◌∷◌, ◌++◌, codes}
use Rattle.std.specs.List.{All}
use Rattle.plan_types.specs.declared.range.Range.{Range, size-Range}
use Rattle.plan_types.specs.declared.range.Range.TheOpen.{Range-F, Any, Nothing, Equal, Prefix, AtLeast, Above, AtMost, Below, Major, Both, Either}
use Rattle.plan_types.specs.declared.range.Range.TheFolds.{fold-Range}
use Rattle.version_range.specs.declared.print.RangePlace.{RangePlace}
use Rattle.version_range.specs.declared.print.RangePlace.TheVariants.{Whole, Term, Factor}
use Rattle.version_range.specs.declared.print.Rest.{Rest}
use Rattle.version_range.specs.declared.print.Rest.TheVariants.{Close, And, Or}
use Rattle.version_range.specs.Version.{version_text}

-- a text in parentheses
abbrev pub enclosed : List ℕ → List ℕ
enclosed text = 40 ∷ (text ++ 41 ∷ [])

-- the text of `&&`, in parentheses as an operand of `&&`
abbrev pub as_term : RangePlace → List ℕ → List ℕ
as_term Whole text = text
as_term Term text = text
as_term Factor text = enclosed text

-- the text of `||`, in parentheses as an operand of `||` or `&&`
abbrev pub as_whole : RangePlace → List ℕ → List ℕ
as_whole Whole text = text
as_whole Term text = enclosed text
as_whole Factor text = enclosed text

-- the text of one layer of a range, from those of its parts
abbrev pub text_step : Range-F (RangePlace → List ℕ) → RangePlace → List ℕ
text_step Any place = codes "-any"
text_step Nothing place = codes "-none"
text_step (Equal x) place = codes "==" ++ version_text x.parts
text_step (Prefix x) place = codes "==" ++ version_text x.parts ++ codes ".*"
text_step (AtLeast x) place = codes ">=" ++ version_text x.parts
text_step (Above x) place = codes ">" ++ version_text x.parts
text_step (AtMost x) place = codes "<=" ++ version_text x.parts
text_step (Below x) place = codes "<" ++ version_text x.parts
text_step (Major x) place = codes "^>=" ++ version_text x.parts
text_step (Both left right) place = as_term place (left Term ++ codes " && " ++ right Factor)
text_step (Either left right) place = as_whole place (left Whole ++ codes " || " ++ right Term)

-- the text of a range at a place
abbrev pub text_in : Range → RangePlace → List ℕ
text_in = fold-Range (RangePlace → List ℕ) text_step

-- the text of a range; chains are left-associative, so a right operand with its parent's operator is in parentheses
abbrev pub range_text : Range → List ℕ
range_text range = text_in range Whole

-- the text of a pending rest
abbrev pub rest_text : Rest → List ℕ
rest_text Close = codes ")"
rest_text (And right) = codes " && " ++ text_in right.now Factor
rest_text (Or right) = codes " || " ++ text_in right.now Term

-- the texts of the pending rests, the last one first
abbrev pub rests_text : List Rest → List ℕ
rests_text [] = []
rests_text (rest ∷ rests) = rests_text rests ++ rest_text rest

-- a pending operand is smaller than the range
abbrev pub IsSmaller : Range → Rest → Type 0
IsSmaller range Close = Unit {0}
IsSmaller range (And right) = size-Range right.now < size-Range range
IsSmaller range (Or right) = size-Range right.now < size-Range range

-- what is below a range stays below it
abbrev pub StaySmaller : List Rest → List Rest → Type 0
StaySmaller old new = (range : Range) → All (IsSmaller range) old → All (IsSmaller range) new

-- the next body is written at its place: with parentheses if they are needed
abbrev pub Opens : (List ℕ → List ℕ) → List ℕ → List Rest → List ℕ → List Rest → Type 0
Opens placed text rests new-text new-rests = (body : List ℕ) → (new-text ++ body) ++ rests_text new-rests ≡ (text ++ placed body) ++ rests_text rests

-- the most parentheses that are open at once in a text, if n are open before it
abbrev pub most_open : ℕ → List ℕ → ℕ
most_open n [] = n
most_open n (b ∷ bs) = max n (most_open (cond (b == 40) (n + 1) (cond (b == 41) (n - 1) n)) bs)
