-- Readers: functions that read a text from left to right. Languages and first faults are defined without them.
use Rattle.std.specs.Prelude.{◌≡◌, ◌+◌, ℕ, zero, suc, Bool, ◌==◌, ◌||◌, if◌then◌else◌, List, [], ◌∷◌, length, Option, Some, None, Result, Ok, Err}
use Rattle.std.specs.Char.{to_ascii_lowercase}
use Rattle.plan_types.specs.declared.refusal.Cause.{Cause}
use Rattle.plan_types.specs.declared.refusal.TextFault.{TextFault}
use Rattle.plan_types.specs.Refusal.{Refuses}

-- sequencing of reads
infixl 10 ◌>>=◌
-- the next step of a successful read
abbrev pub ◌>>=◌ : {A B : Type 0} → Result A Cause → (A → Result B Cause) → Result B Cause
(Ok x) >>= f = f x
(Err cause) >>= f = Err cause

-- a call's fault is the reader's cause, or out of memory
abbrev pub Fails : {B : Type 0} → TextFault → Result B Cause → Type 0
Fails fault read = Refuses (λ cause. read ≡ Err cause) fault

-- a call's result, under a view, is the reader's result
abbrev pub Gives : {A B : Type 0} → (A → B) → Result A TextFault → Result B Cause → Type 0
Gives view (Ok x) read = read ≡ Ok (view x)
Gives view (Err fault) read = Fails fault read

-- the text without leading spaces and tabs
abbrev pub skip_blanks : List ℕ → List ℕ
skip_blanks [] = []
skip_blanks (b ∷ bs) = if b == 32 || b == 9 then skip_blanks bs else b ∷ bs

-- the rest of the text, if this byte is its first
abbrev pub byte_after : ℕ → List ℕ → Option (List ℕ)
byte_after byte [] = None
byte_after byte (b ∷ bs) = if b == byte then Some bs else None

-- Reads parts until none follows, at most n, and joins each to the value so far: they associate to the left.
unfoldable pub chain : {A B : Type 0} → (A → B → A) → (List ℕ → Result (Option (B × List ℕ)) Cause) → ℕ → A → List ℕ → Result (A × List ℕ) Cause
chain join next zero left rest = Ok (left, rest)
chain join next (suc n) left rest = next rest >>= λ found. elim found [ None ↦ Ok (left, rest) | Some p ↦ chain join next n (join left p.0) p.1 ]

-- a chain after its first part; a part takes a byte or more, so the bound is never reached
abbrev pub chained : {A B : Type 0} → (A → B → A) → (List ℕ → Result (Option (B × List ℕ)) Cause) → A × List ℕ → Result (A × List ℕ) Cause
chained join next first = chain join next (length first.1 + 1) first.0 first.1

-- Reads a required byte. If it is missing, the cause depends on the rest.
abbrev pub byte_due : (List ℕ → Cause) → ℕ → List ℕ → Result (List ℕ) Cause
byte_due missing byte text = elim (byte_after byte text) [ None ↦ Err (missing text) | Some rest ↦ Ok rest ]

-- the rest after blanks and a doubled byte; none if the byte is missing, a fault if there is only one
abbrev pub behind_twice : (List ℕ → Cause) → ℕ → List ℕ → Result (Option (List ℕ)) Cause
behind_twice missing byte text = elim (byte_after byte (skip_blanks text)) [ None ↦ Ok None | Some more ↦ byte_due missing byte more >>= λ rest. Ok (Some rest) ]

-- a read with its value mapped
abbrev pub valued : {A B : Type 0} → (A → B) → Result (A × List ℕ) Cause → Result (B × List ℕ) Cause
valued f (Ok p) = Ok (f p.0, p.1)
valued f (Err cause) = Err cause

-- an operand after a doubled byte
abbrev pub next_at : {A : Type 0} → (List ℕ → Result (A × List ℕ) Cause) → (List ℕ → Cause) → ℕ → List ℕ → Result (Option (A × List ℕ)) Cause
next_at operand missing byte text = behind_twice missing byte text >>= λ found. elim found [ None ↦ Ok None | Some rest ↦ operand rest >>= λ p. Ok (Some p) ]

-- factors joined by `&&`
abbrev pub term_at : {A : Type 0} → (A → A → A) → (List ℕ → Cause) → (List ℕ → Result (A × List ℕ) Cause) → List ℕ → Result (A × List ℕ) Cause
term_at both missing factor text = factor (skip_blanks text) >>= chained both (next_at (λ t. factor (skip_blanks t)) missing 38)

-- terms joined by `||`
abbrev pub terms_at : {A : Type 0} → (A → A → A) → (A → A → A) → (List ℕ → Cause) → (List ℕ → Result (A × List ℕ) Cause) → List ℕ → Result (A × List ℕ) Cause
terms_at both either missing factor text = term_at both missing factor text >>= chained either (next_at (term_at both missing factor) missing 124)

-- the rest of the text, if its first byte passes a test
abbrev pub pass_after : (ℕ → Bool) → List ℕ → Option (List ℕ)
pass_after test [] = None
pass_after test (b ∷ bs) = if test b then Some bs else None

-- whether a byte is this lower-case letter, in any case
abbrev pub is_letter : ℕ → ℕ → Bool
is_letter letter b = to_ascii_lowercase b == letter

-- the rest of the text, if its first byte is this letter in any case
abbrev pub letter_after : ℕ → List ℕ → Option (List ℕ)
letter_after letter = pass_after (is_letter letter)

-- reads a required word, in any case
abbrev pub word_due : (List ℕ → Cause) → List ℕ → List ℕ → Result (List ℕ) Cause
word_due missing [] text = Ok text
word_due missing (letter ∷ letters) text = elim (letter_after letter text) [ None ↦ Err (missing text) | Some rest ↦ word_due missing letters rest ]
