-- The language of ranges, and the first faults of texts.
use Rattle.std.specs.Prelude.{◌≡◌, ◌⊎◌, ℕ, zero, suc, Bool, true, false, ◌&&◌, not, List, [], ◌∷◌, ◌++◌, codes}
use Rattle.std.specs.Char.{is_ascii_digit}
use Rattle.plan_types.specs.declared.range.Range.{Range}
use Rattle.plan_types.specs.declared.range.Range.TheVariants.{Any, Nothing, Prefix, Both, Either}
use Rattle.plan_types.specs.declared.range.Range.TheVariants as ranges
use Rattle.plan_types.specs.declared.range.Spec.{Spec}
use Rattle.plan_types.specs.Bytes.{Blanks, begins_with}
use Rattle.plan_types.specs.Format.{is_old}
use Rattle.plan_types.specs.declared.version.Version.{Version}
use Rattle.plan_types.specs.declared.refusal.Cause.{Cause}
use Rattle.plan_types.specs.declared.refusal.Cause.TheVariants.{BadVersion, BadRange, NeedsVersion, TooDeep}
use Rattle.text_grammar.specs.Parts.{Led, Behind, Chain}
use Rattle.text_grammar.specs.Parts as parts
use Rattle.text_grammar.specs.FirstFault as first
use Rattle.version_range.specs.declared.operator.Operator.{Operator}
use Rattle.version_range.specs.declared.operator.Operator.TheVariants.{Equal, AtLeast, Above, AtMost, Below, Major}
use Rattle.version_range.specs.Version.{is_version, version_text, begins_with_digit}

-- the text of an operator
abbrev pub operator_text : Operator → List ℕ
operator_text Equal = codes "=="
operator_text AtLeast = codes ">="
operator_text Above = codes ">"
operator_text AtMost = codes "<="
operator_text Below = codes "<"
operator_text Major = codes "^>="

-- the range of an operator and its version
abbrev pub of_version : Operator → Version → Range
of_version Equal v = ranges.Equal v
of_version AtLeast v = ranges.AtLeast v
of_version Above v = ranges.Above v
of_version AtMost v = ranges.AtMost v
of_version Below v = ranges.Below v
of_version Major v = ranges.Major v

-- whether a set may follow the operator
abbrev pub has_sets : Operator → Spec → Bool
has_sets Equal spec = not (is_old spec)
has_sets AtLeast spec = false
has_sets Above spec = false
has_sets AtMost spec = false
has_sets Below spec = false
has_sets Major spec = not (is_old spec)

-- a version after this operator
pub data Compared (op : Operator) : List ℕ → Range → Type 0 where
  compared : (v : Version) → is_version v.parts ≡ true → Compared op (version_text v.parts) (of_version op v)

-- the members of a set: versions separated by commas, joined by `||`
abbrev pub Members : Operator → List ℕ → Range → Type 0
Members op = Chain Either (Led (Compared op)) (Behind (codes ",") (Led (Compared op)))

-- a factor without a parenthesis
pub data Atom (spec : Spec) : List ℕ → Range → Type 0 where
  any : Atom spec (codes "-any") Any
  none : Atom spec (codes "-none") Nothing
  version : (op : Operator) {text : List ℕ} {r : Range} → Led (Compared op) text r → Atom spec (operator_text op ++ text) r
  prefix : (blanks : List ℕ) (v : Version) → Blanks blanks → is_version v.parts ≡ true → Atom spec (codes "==" ++ blanks ++ version_text v.parts ++ codes ".*") (Prefix v)
  set : (op : Operator) (blanks text after : List ℕ) {r : Range} → has_sets op spec ≡ true → Blanks blanks → Members op text r → Blanks after → Atom spec (operator_text op ++ blanks ++ codes "{" ++ text ++ after ++ codes "}") r

-- an atom, or a range in parentheses
pub data Factor (spec : Spec) (Inside : List ℕ → Range → Type 0) : List ℕ → Range → Type 0 where
  atom : {text : List ℕ} {r : Range} → Atom spec text r → Factor spec Inside text r
  enclosed : (text after : List ℕ) {r : Range} → Inside text r → Blanks after → Factor spec Inside (codes "(" ++ text ++ after ++ codes ")") r

-- factors joined by `&&`
abbrev pub Term : Spec → (List ℕ → Range → Type 0) → List ℕ → Range → Type 0
Term spec Inside = parts.Term Both (Factor spec Inside)

-- terms joined by `||`
abbrev pub Terms : Spec → (List ℕ → Range → Type 0) → List ℕ → Range → Type 0
Terms spec Inside = parts.Terms Both Either (Factor spec Inside)

-- the contents of parentheses, with at most so many open at once, these included
unfoldable pub Inside : Spec → ℕ → List ℕ → Range → Type 0
Inside spec zero text r = ⊥
Inside spec (suc n) text r = Terms spec (Inside spec n) text r

-- The text denotes this range, with at most so many parentheses open at once. A text of blanks is any version.
pub data Stands (spec : Spec) (deepest : ℕ) : List ℕ → Range → Type 0 where
  empty : {text : List ℕ} → Blanks text → Stands spec deepest text Any
  range : (text after : List ℕ) {r : Range} → Terms spec (Inside spec deepest) text r → Blanks after → Stands spec deepest (text ++ after) r

-- a viable prefix: some bytes complete it to a text of a range
abbrev pub Viable : Spec → ℕ → List ℕ → Type 0
Viable spec deepest = first.Viable (Stands spec deepest)

-- whether the last byte is a digit
abbrev pub ends_with_digit : List ℕ → Bool
ends_with_digit [] = false
ends_with_digit (b ∷ []) = is_ascii_digit b
ends_with_digit (b ∷ c ∷ bs) = ends_with_digit (c ∷ bs)

-- a set, in a cabal-version without sets
abbrev pub IsNewForm : Spec → List ℕ → Type 0
IsNewForm spec rest = (is_old spec && begins_with 123 rest) ≡ true

-- a number may begin here, or a digit follows a number that it can't belong to
abbrev pub IsNumberDue : Spec → ℕ → List ℕ → List ℕ → Type 0
IsNumberDue spec deepest front rest =
    ((ends_with_digit front ≡ false) × ((digit : ℕ) × (is_ascii_digit digit ≡ true) × Viable spec deepest (front ++ digit ∷ [])))
    ⊎ ((ends_with_digit front ≡ true) × (begins_with_digit rest ≡ true))

-- a parenthesis that the grammar with one more open parenthesis reads
abbrev pub OpensTooMany : Spec → ℕ → List ℕ → List ℕ → Type 0
OpensTooMany spec deepest front rest = (begins_with 40 rest ≡ true) × Viable spec (suc deepest) (front ++ codes "(")

-- the cause: the first of these that applies
pub data CauseAt (spec : Spec) (deepest : ℕ) (front rest : List ℕ) : Cause → Type 0 where
  needs_version : IsNewForm spec rest → CauseAt spec deepest front rest NeedsVersion
  bad_version : (IsNewForm spec rest → ⊥) → IsNumberDue spec deepest front rest → CauseAt spec deepest front rest BadVersion
  too_deep : (IsNewForm spec rest → ⊥) → (IsNumberDue spec deepest front rest → ⊥) → OpensTooMany spec deepest front rest → CauseAt spec deepest front rest TooDeep
  bad_range : (IsNewForm spec rest → ⊥) → (IsNumberDue spec deepest front rest → ⊥) → (OpensTooMany spec deepest front rest → ⊥) → CauseAt spec deepest front rest BadRange

-- a viable prefix at which the text is stuck, and the cause there
abbrev pub FirstFault : Spec → ℕ → List ℕ → Cause → Type 0
FirstFault spec deepest = first.FirstFault (Stands spec deepest) (CauseAt spec deepest)
