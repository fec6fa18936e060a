-- The reader of ranges, from left to right. The language and its first faults are in Grammar.
use Rattle.std.specs.Prelude.{◌+◌, ℕ, zero, suc, Bool, true, false, not, ◌&&◌, ◌==◌, nat_le, if◌then◌else◌, List, [], ◌∷◌, ◌++◌, length, take, drop, Option, Some, None, Result, Ok, Err}
use Rattle.std.specs.Char.{is_ascii_digit}
use Rattle.plan_types.specs.declared.range.Range.{Range}
use Rattle.plan_types.specs.declared.range.Range.TheVariants as ranges
use Rattle.plan_types.specs.declared.range.Spec.{Spec}
use Rattle.plan_types.specs.declared.version.Version.{Version}
use Rattle.plan_types.specs.declared.refusal.Cause.{Cause}
use Rattle.plan_types.specs.declared.refusal.Cause.TheVariants.{BadVersion, BadRange, NeedsVersion, TooDeep}
use Rattle.plan_types.specs.Bytes.{begins_with}
use Rattle.text_grammar.specs.Reading.{◌>>=◌, skip_blanks, byte_after, chained}
use Rattle.text_grammar.specs.Reading as reading
use Rattle.version_range.specs.declared.merge.Connective.{Connective}
use Rattle.version_range.specs.declared.merge.Connective.TheVariants as joints
use Rattle.version_range.specs.declared.operator.Operator.{Operator}
use Rattle.version_range.specs.declared.operator.Operator.TheVariants.{Equal, AtLeast, Above, AtMost, Below, Major}
use Rattle.version_range.specs.Version.{number_after}
use Rattle.plan_types.specs.Format.{is_old}
use Rattle.version_range.specs.Grammar.{of_version, has_sets}
use Rattle.version_range.specs.Cuts.{joined_range}

-- the cause at the first byte of the rest
abbrev pub cause_at : Spec → Cause → List ℕ → Cause
cause_at spec cause rest = if is_old spec && begins_with 123 rest then NeedsVersion else cause

-- the number of leading digits
abbrev pub digits_in : List ℕ → ℕ
digits_in [] = 0
digits_in (b ∷ bs) = if is_ascii_digit b then digits_in bs + 1 else 0

-- one to nine digits, and no leading zero unless it is `0`
abbrev pub is_number : List ℕ → Bool
is_number [] = false
is_number (b ∷ []) = true
is_number (b ∷ c ∷ bs) = not (b == 48) && nat_le (length (b ∷ c ∷ bs)) 9

-- the number at the start of a text
unfoldable pub number_at : Spec → List ℕ → Result (ℕ × List ℕ) Cause
number_at spec text =
    if is_number (take (digits_in text) text) then Ok (number_after 0 (take (digits_in text) text), drop (digits_in text) text)
    else Err (cause_at spec BadVersion text)

-- these numbers and one more
abbrev pub followed : List ℕ → ℕ → List ℕ
followed numbers number = numbers ++ number ∷ []

-- the number after a point; if `star` is true, none at `.*`
unfoldable pub next_number : Bool → Spec → List ℕ → Result (Option (ℕ × List ℕ)) Cause
next_number star spec text =
    elim (byte_after 46 text) [
      | None ↦ Ok None
      | Some more ↦ if star && begins_with 42 more then Ok None else number_at spec more >>= λ p. Ok (Some p)
    ]

-- the version at the start of a text
unfoldable pub version_at : Bool → Spec → List ℕ → Result (Version × List ℕ) Cause
version_at star spec text = do
  first ← number_at spec text
  all ← chained followed (next_number star spec) (first.0 ∷ [], first.1)
  Ok (record { parts = all.0 }, all.1)

-- the cause where a required byte is missing; a missing number is `BadVersion`
abbrev pub missing : Spec → List ℕ → Cause
missing spec = cause_at spec BadRange

-- a required byte
abbrev pub byte_due : Spec → ℕ → List ℕ → Result (List ℕ) Cause
byte_due spec = reading.byte_due (missing spec)

-- the longer operator if a `=` follows, else the shorter one
abbrev pub either_at : Operator → Operator → List ℕ → Operator × List ℕ
either_at long short text = elim (byte_after 61 text) [ None ↦ (short, text) | Some rest ↦ (long, rest) ]

-- the operator at the start of a text
unfoldable pub operator_at : Spec → List ℕ → Result (Operator × List ℕ) Cause
operator_at spec text =
    elim (byte_after 62 text) [
      | Some rest ↦ Ok (either_at AtLeast Above rest)
      | None ↦ elim (byte_after 60 text) [
        | Some rest ↦ Ok (either_at AtMost Below rest)
        | None ↦ elim (byte_after 94 text) [
          | Some rest ↦ byte_due spec 62 rest >>= λ more. byte_due spec 61 more >>= λ behind. Ok (Major, behind)
          | None ↦ byte_due spec 61 text >>= λ more. byte_due spec 61 more >>= λ behind. Ok (Equal, behind)
        ]
      ]
    ]

-- a member of a set after a comma
unfoldable pub next_member : Operator → Spec → List ℕ → Result (Option (Range × List ℕ)) Cause
next_member op spec text =
    elim (byte_after 44 (skip_blanks text)) [
      | None ↦ Ok None
      | Some more ↦ version_at false spec (skip_blanks more) >>= λ p. Ok (Some (of_version op p.0, p.1))
    ]

-- a set, after its opening brace
unfoldable pub set_at : Operator → Spec → List ℕ → Result (Range × List ℕ) Cause
set_at op spec text = do
  first ← version_at false spec (skip_blanks text)
  all ← chained ranges.Either (next_member op spec) (of_version op first.0, first.1)
  rest ← byte_due spec 125 (skip_blanks all.1)
  Ok (all.0, rest)

-- a version, or its prefix and `.*`
unfoldable pub equal_at : Spec → List ℕ → Result (Range × List ℕ) Cause
equal_at spec text = do
  v ← version_at true spec text
  elim (byte_after 46 v.1) [ None ↦ Ok (ranges.Equal v.0, v.1) | Some more ↦ byte_due spec 42 more >>= λ rest. Ok (ranges.Prefix v.0, rest) ]

-- the version after an operator
unfoldable pub compared_at : Operator → Spec → List ℕ → Result (Range × List ℕ) Cause
compared_at op spec text = version_at false spec text >>= λ v. Ok (of_version op v.0, v.1)

-- the version after an operator, or after `==` its prefix and `.*`
abbrev pub plain_at : Operator → Spec → List ℕ → Result (Range × List ℕ) Cause
plain_at op spec text = elim op [
  | Equal ↦ equal_at spec text
  | AtLeast ↦ compared_at AtLeast spec text
  | Above ↦ compared_at Above spec text
  | AtMost ↦ compared_at AtMost spec text
  | Below ↦ compared_at Below spec text
  | Major ↦ compared_at Major spec text
]

-- the operand after an operator
unfoldable pub operand_at : Operator → Spec → List ℕ → Result (Range × List ℕ) Cause
operand_at op spec text =
    if has_sets op spec && begins_with 123 text then byte_due spec 123 text >>= set_at op spec
    else plain_at op spec text

-- `any` or `none`
unfoldable pub word_at : Spec → List ℕ → Result (Range × List ℕ) Cause
word_at spec text =
    elim (byte_after 97 text) [
      | Some any ↦ byte_due spec 110 any >>= λ a. byte_due spec 121 a >>= λ rest. Ok (ranges.Any, rest)
      | None ↦ byte_due spec 110 text >>= λ a. byte_due spec 111 a >>= λ b. byte_due spec 110 b >>= λ c. byte_due spec 101 c >>= λ rest. Ok (ranges.Nothing, rest)
    ]

-- a factor; `inside` reads the contents of parentheses
unfoldable pub factor_at : (List ℕ → Result (Range × List ℕ) Cause) → Spec → List ℕ → Result (Range × List ℕ) Cause
factor_at inside spec text =
    elim (byte_after 40 text) [
      | Some rest ↦ inside rest >>= λ r. byte_due spec 41 (skip_blanks r.1) >>= λ behind. Ok (r.0, behind)
      | None ↦ elim (byte_after 45 text) [
        | Some rest ↦ word_at spec rest
        | None ↦ operator_at spec text >>= λ op. operand_at op.0 spec (skip_blanks op.1)
      ]
    ]

-- the rest after `&&` or `||`; none if its first byte is missing
abbrev pub behind : Spec → ℕ → List ℕ → Result (Option (List ℕ)) Cause
behind spec = reading.behind_twice (missing spec)

-- an operand after a doubled byte
abbrev pub next_at : (List ℕ → Result (Range × List ℕ) Cause) → Spec → ℕ → List ℕ → Result (Option (Range × List ℕ)) Cause
next_at operand spec = reading.next_at operand (missing spec)

-- factors joined by `&&`
unfoldable pub term_at : (List ℕ → Result (Range × List ℕ) Cause) → Spec → List ℕ → Result (Range × List ℕ) Cause
term_at inside spec text = factor_at inside spec (skip_blanks text) >>= chained ranges.Both (next_at (λ t. factor_at inside spec (skip_blanks t)) spec 38)

-- terms joined by `||`
unfoldable pub range_in : (List ℕ → Result (Range × List ℕ) Cause) → Spec → List ℕ → Result (Range × List ℕ) Cause
range_in inside spec text = term_at inside spec text >>= chained ranges.Either (next_at (term_at inside spec) spec 124)

-- the byte that stands twice between parts
abbrev pub joint_byte : Connective → ℕ
joint_byte joints.Both = 38
joint_byte joints.Either = 124

-- a part of a chain: a factor, or a term
abbrev pub part_at : Connective → (List ℕ → Result (Range × List ℕ) Cause) → Spec → List ℕ → Result (Range × List ℕ) Cause
part_at joints.Both inside spec text = factor_at inside spec (skip_blanks text)
part_at joints.Either inside spec text = term_at inside spec text

-- the next part of a chain
abbrev pub next_part : Connective → (List ℕ → Result (Range × List ℕ) Cause) → Spec → List ℕ → Result (Option (Range × List ℕ)) Cause
next_part joint inside spec = next_at (part_at joint inside spec) spec (joint_byte joint)

-- a chain of parts: a term, or terms
abbrev pub chain_at : Connective → (List ℕ → Result (Range × List ℕ) Cause) → Spec → List ℕ → Result (Range × List ℕ) Cause
chain_at joint inside spec text = part_at joint inside spec text >>= chained (joined_range joint) (next_part joint inside spec)

-- a range in parentheses, with at most so many open, this one included
unfoldable pub inside : ℕ → Spec → List ℕ → Result (Range × List ℕ) Cause
inside zero spec text = Err TooDeep
inside (suc n) spec text = range_in (inside n spec) spec text

-- a whole text, with at most 64 parentheses open at once
unfoldable pub range_of : Spec → List ℕ → Result Range Cause
range_of spec text =
    if length (skip_blanks text) == 0 then Ok ranges.Any
    else range_in (inside 64 spec) spec text >>= λ r. (let rest = skip_blanks r.1 in if length rest == 0 then Ok r.0 else Err (cause_at spec BadRange rest))
