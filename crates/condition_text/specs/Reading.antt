-- The reader of conditions, from left to right. The language and its first faults are in Grammar.
use Rattle.std.specs.Prelude.{ℕ, zero, suc, Bool, ◌&&◌, ◌==◌, not, if◌then◌else◌, List, [], ◌∷◌, codes, length, Option, Some, None, Result, Ok, Err}
use Rattle.std.specs.Str.{str_to_ascii_lowercase}
use Rattle.plan_types.specs.Name.{is_letter_or_digit, is_component_byte}
use Rattle.plan_types.specs.declared.condition.Cond.{Cond}
use Rattle.plan_types.specs.declared.condition.Cond.TheVariants.{Always, Never, Flag, Os, Arch, Impl, Not, And, Or}
use Rattle.plan_types.specs.declared.range.Range.{Range}
use Rattle.plan_types.specs.declared.range.Range.TheVariants.{Any}
use Rattle.plan_types.specs.declared.range.Spec.{Spec}
use Rattle.plan_types.specs.declared.refusal.Cause.{Cause}
use Rattle.plan_types.specs.declared.refusal.Cause.TheVariants.{NotUtf8, StrayBrace, UnclosedBrace, BadName, TooDeep, BadVersion, BadRange, NeedsVersion, BadCond, BadDepend, BadConstraint, MissingField, WrongCabalVersion, BadField, DuplicateName, UnknownStanza, UnknownFlag, ImportNotFirst, ElseWithoutIf, UnknownComponent, ComponentCycle, TooManyPaths, Unsupported, NoMatch, TwoCabalFiles, NoPackages, TooLarge, WrongPlace, BadRecord, DuplicateLocal, DuplicateUnit, TooMany, BadEvent}
use Rattle.text_grammar.specs.Reading.{◌>>=◌, skip_blanks, byte_after, byte_due, letter_after, word_due, next_at, term_at, terms_at, chained, valued}
use Rattle.version_range.specs.Read.{range_in, inside, missing}
use Rattle.conditionals.specs.Environment.{system_of}
use Rattle.condition_text.specs.declared.read.Joint.{Joint}
use Rattle.condition_text.specs.declared.read.Joint.TheVariants as joints

-- the cause where another byte is due
abbrev pub bad : List ℕ → Cause
bad rest = BadCond

-- the longest prefix of bytes that pass, and the rest
abbrev pub split : (ℕ → Bool) → List ℕ → List ℕ × List ℕ
split test [] = ([], [])
split test (b ∷ bs) = if test b then (b ∷ (split test bs).0, (split test bs).1) else ([], b ∷ bs)

-- a name: the longest run of name bytes, with a test of the first one
unfoldable pub name_at : (ℕ → Bool) → (ℕ → Bool) → List ℕ → Result (List ℕ × List ℕ) Cause
name_at first part [] = Err BadCond
name_at first part (b ∷ bs) = if first b && part b then Ok (split part (b ∷ bs)) else Err BadCond

-- blanks and a required `)` after a read
abbrev pub closed : {A : Type 0} → A × List ℕ → Result (A × List ℕ) Cause
closed r = byte_due bad 41 (skip_blanks r.1) >>= λ rest. Ok (r.0, rest)

-- blanks, a `(`, blanks, and then `read`
abbrev pub argument : {A : Type 0} → (List ℕ → Result (A × List ℕ) Cause) → List ℕ → Result (A × List ℕ) Cause
argument read text = elim (byte_after 40 (skip_blanks text)) [ None ↦ Err BadCond | Some rest ↦ read (skip_blanks rest) ]

-- a name in parentheses
abbrev pub named_at : (ℕ → Bool) → (ℕ → Bool) → List ℕ → Result (List ℕ × List ℕ) Cause
named_at first part = argument (λ text. name_at first part text >>= closed)

-- a byte that may begin the name of a flag
abbrev pub begins_flag : ℕ → Bool
begins_flag b = not (b == 45)

-- the cause of a fault in a range, as one of a condition
abbrev pub cond_cause : Cause → Cause
cond_cause NeedsVersion = NeedsVersion
cond_cause TooDeep = TooDeep
cond_cause NotUtf8 = BadCond
cond_cause StrayBrace = BadCond
cond_cause UnclosedBrace = BadCond
cond_cause BadName = BadCond
cond_cause BadVersion = BadCond
cond_cause BadRange = BadCond
cond_cause BadCond = BadCond
cond_cause BadDepend = BadCond
cond_cause BadConstraint = BadCond
cond_cause MissingField = BadCond
cond_cause WrongCabalVersion = BadCond
cond_cause BadField = BadCond
cond_cause DuplicateName = BadCond
cond_cause UnknownStanza = BadCond
cond_cause UnknownFlag = BadCond
cond_cause ImportNotFirst = BadCond
cond_cause ElseWithoutIf = BadCond
cond_cause UnknownComponent = BadCond
cond_cause ComponentCycle = BadCond
cond_cause TooManyPaths = BadCond
cond_cause Unsupported = BadCond
cond_cause NoMatch = BadCond
cond_cause TwoCabalFiles = BadCond
cond_cause NoPackages = BadCond
cond_cause TooLarge = BadCond
cond_cause WrongPlace = BadCond
cond_cause BadRecord = BadCond
cond_cause DuplicateLocal = BadCond
cond_cause DuplicateUnit = BadCond
cond_cause TooMany = BadCond
cond_cause BadEvent = BadCond

-- a read of a range, with the causes of a condition
abbrev pub with_cond_causes : {A : Type 0} → Result A Cause → Result A Cause
with_cond_causes (Ok x) = Ok x
with_cond_causes (Err cause) = Err (cond_cause cause)

-- an optional range, and the parenthesis that ends the test
abbrev pub tail_at : Spec → ℕ → List ℕ → Result (Range × List ℕ) Cause
tail_at spec n text =
    elim (byte_after 41 (skip_blanks text)) [
      | Some rest ↦ Ok (Any, rest)
      | None ↦ range_in (inside n spec) spec text >>= λ r. byte_due (missing spec) 41 (skip_blanks r.1) >>= λ rest. Ok (r.0, rest)
    ]

-- the same, with the causes of a condition
abbrev pub cond_tail : Spec → ℕ → List ℕ → Result (Range × List ℕ) Cause
cond_tail spec n text = with_cond_causes (tail_at spec n text)

-- a compiler and its versions
abbrev pub compiler_at : (List ℕ → Result (Range × List ℕ) Cause) → List ℕ → Result ((List ℕ × Range) × List ℕ) Cause
compiler_at tail text = name_at is_letter_or_digit is_letter_or_digit text >>= λ p. tail p.1 >>= λ q. Ok ((str_to_ascii_lowercase p.0, q.0), q.1)

-- the test of a flag, after `flag`
abbrev pub flag_at : List ℕ → Result (Cond × List ℕ) Cause
flag_at text = valued (λ x. Flag (str_to_ascii_lowercase x)) (named_at begins_flag is_component_byte text)

-- the test of a system, after `os`
abbrev pub os_at : List ℕ → Result (Cond × List ℕ) Cause
os_at text = valued (λ x. Os (system_of (str_to_ascii_lowercase x))) (named_at is_component_byte is_component_byte text)

-- the test of a processor, after `arch`
abbrev pub arch_at : List ℕ → Result (Cond × List ℕ) Cause
arch_at text = valued (λ x. Arch (str_to_ascii_lowercase x)) (named_at is_component_byte is_component_byte text)

-- the test of a compiler and its versions, after `impl`
abbrev pub impl_at : (List ℕ → Result (Range × List ℕ) Cause) → List ℕ → Result (Cond × List ℕ) Cause
impl_at tail text = valued (λ c. Impl c.0 c.1) (argument (compiler_at tail) text)

-- a required word, and then `read`
abbrev pub word_at : List ℕ → (List ℕ → Result (Cond × List ℕ) Cause) → List ℕ → Result (Cond × List ℕ) Cause
word_at word read text = word_due bad word text >>= read

-- `arch` or `impl`
abbrev pub from_a : (List ℕ → Result (Range × List ℕ) Cause) → List ℕ → Result (Cond × List ℕ) Cause
from_a tail text = elim (letter_after 97 text) [ None ↦ word_at (codes "impl") (impl_at tail) text | Some rest ↦ word_at (codes "rch") arch_at rest ]

-- `os`, or one of the later choices
abbrev pub from_o : (List ℕ → Result (Range × List ℕ) Cause) → List ℕ → Result (Cond × List ℕ) Cause
from_o tail text = elim (letter_after 111 text) [ None ↦ from_a tail text | Some rest ↦ word_at (codes "s") os_at rest ]

-- `false` or `flag`, after its first letter
abbrev pub after_f : List ℕ → Result (Cond × List ℕ) Cause
after_f text = elim (letter_after 97 text) [ None ↦ word_at (codes "lag") flag_at text | Some rest ↦ word_at (codes "lse") (λ t. Ok (Never, t)) rest ]

-- `false` or `flag`, or one of the later choices
abbrev pub from_f : (List ℕ → Result (Range × List ℕ) Cause) → List ℕ → Result (Cond × List ℕ) Cause
from_f tail text = elim (letter_after 102 text) [ None ↦ from_o tail text | Some rest ↦ after_f rest ]

-- an atom: a factor without `!` and parentheses around it
unfoldable pub atom_at : (List ℕ → Result (Range × List ℕ) Cause) → List ℕ → Result (Cond × List ℕ) Cause
atom_at tail text = elim (letter_after 116 text) [ None ↦ from_f tail text | Some rest ↦ word_at (codes "rue") (λ t. Ok (Always, t)) rest ]

-- a condition of two parts
abbrev pub joined : Joint → Cond → Cond → Cond
joined joints.And left right = And left right
joined joints.Or left right = Or left right

-- the byte that stands twice between parts
abbrev pub joint_byte : Joint → ℕ
joint_byte joints.And = 38
joint_byte joints.Or = 124

-- a part of a chain: a factor, or a term
abbrev pub part_at : Joint → (List ℕ → Result (Cond × List ℕ) Cause) → List ℕ → Result (Cond × List ℕ) Cause
part_at joints.And factor text = factor (skip_blanks text)
part_at joints.Or factor text = term_at And bad factor text

-- the next part of a chain
abbrev pub next_part : Joint → (List ℕ → Result (Cond × List ℕ) Cause) → List ℕ → Result (Option (Cond × List ℕ)) Cause
next_part joint factor = next_at (part_at joint factor) bad (joint_byte joint)

-- a chain of parts: a term, or terms
abbrev pub chain_at : Joint → (List ℕ → Result (Cond × List ℕ) Cause) → List ℕ → Result (Cond × List ℕ) Cause
chain_at joint factor text = part_at joint factor text >>= chained (joined joint) (next_part joint factor)

-- a factor: `!` and a factor, a condition in parentheses, or an atom; `inner_factor` reads the inner factors
unfoldable pub factor_at : (List ℕ → Result (Range × List ℕ) Cause) → (List ℕ → Result (Cond × List ℕ) Cause) → List ℕ → Result (Cond × List ℕ) Cause
factor_at tail inner_factor text =
    elim (byte_after 40 text) [
      | Some rest ↦ terms_at And Or bad inner_factor rest >>= closed
      | None ↦ elim (byte_after 33 text) [ Some rest ↦ valued Not (inner_factor (skip_blanks rest)) | None ↦ atom_at tail text ]
    ]

-- a factor with so much room; each `(` and `!` around a factor takes one
unfoldable pub opened_at : (List ℕ → Result (Range × List ℕ) Cause) → ℕ → List ℕ → Result (Cond × List ℕ) Cause
opened_at tail zero text = Err TooDeep
opened_at tail (suc n) text = factor_at tail (opened_at tail n) text

-- terms joined by `||`
abbrev pub condition_at : (List ℕ → Result (Range × List ℕ) Cause) → ℕ → List ℕ → Result (Cond × List ℕ) Cause
condition_at tail n = terms_at And Or bad (factor_at tail (opened_at tail n))

-- the condition, if only blanks follow it
abbrev pub ended : Cond × List ℕ → Result Cond Cause
ended r = if length (skip_blanks r.1) == 0 then Ok r.0 else Err BadCond

-- a condition of such factors that is the whole text
abbrev pub whole_by : (List ℕ → Result (Cond × List ℕ) Cause) → List ℕ → Result Cond Cause
whole_by factor text = terms_at And Or bad factor text >>= ended

-- a condition that is the whole text
abbrev pub whole_at : (List ℕ → Result (Range × List ℕ) Cause) → ℕ → List ℕ → Result Cond Cause
whole_at tail n text = condition_at tail n text >>= ended
