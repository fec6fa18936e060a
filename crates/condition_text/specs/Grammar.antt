-- The language of conditions, and the first faults of texts.
use Rattle.std.specs.Prelude.{◌≡◌, ℕ, zero, suc, Bool, true, false, ◌||◌, ◌==◌, List, [], ◌∷◌, ◌++◌, codes}
use Rattle.std.specs.List.{list_all}
use Rattle.std.specs.Str.{str_to_ascii_lowercase}
use Rattle.plan_types.specs.Bytes.{Blanks}
use Rattle.plan_types.specs.Name.{is_letter_or_digit, is_component_name, is_flag_name}
use Rattle.plan_types.specs.declared.condition.Cond.{Cond}
use Rattle.plan_types.specs.declared.condition.Cond.TheVariants.{Always, Never, Flag, Os, Arch, Impl, Not, And, Or}
use Rattle.plan_types.specs.declared.range.Range.{Range}
use Rattle.plan_types.specs.declared.range.Range.TheVariants.{Any}
use Rattle.plan_types.specs.declared.range.Spec.{Spec}
use Rattle.plan_types.specs.declared.refusal.Cause.{Cause}
use Rattle.plan_types.specs.declared.refusal.Cause.TheVariants.{NeedsVersion, TooDeep, BadCond}
use Rattle.text_grammar.specs.Parts.{Worded, Terms}
use Rattle.text_grammar.specs.FirstFault as first
use Rattle.plan_types.specs.Format.{is_old}
use Rattle.version_range.specs.Grammar as ranges
use Rattle.conditionals.specs.Environment.{system_of}

-- one or more letters and digits
abbrev pub is_compiler_name : List ℕ → Bool
is_compiler_name [] = false
is_compiler_name (b ∷ bs) = list_all is_letter_or_digit (b ∷ bs)

-- a name of this form, with its lower case as the value
pub data Name (form : List ℕ → Bool) : List ℕ → List ℕ → Type 0 where
  name : (text : List ℕ) → form text ≡ true → Name form text (str_to_ascii_lowercase text)

-- a part in parentheses, with blanks around
pub data Enclosed {A : Type 0} (Part : List ℕ → A → Type 0) : List ℕ → A → Type 0 where
  enclosed : (before inner after : List ℕ) {text : List ℕ} {x : A} → Blanks before → Blanks inner → Part text x → Blanks after →
      Enclosed Part (before ++ codes "(" ++ inner ++ text ++ after ++ codes ")") x

-- a range and the `)` that ends a test, with at most so many parentheses open at once in the range
pub data Versions (spec : Spec) (deepest : ℕ) : List ℕ → Range → Type 0 where
  versions : (text : List ℕ) {r : Range} → ranges.Stands spec deepest text r → Versions spec deepest (text ++ codes ")") r

-- a compiler in parentheses; `Tail` is the language of its range and `)`
pub data Compiled (Tail : List ℕ → Range → Type 0) : List ℕ → List ℕ × Range → Type 0 where
  compiled : (before inner name : List ℕ) {text : List ℕ} {r : Range} → Blanks before → Blanks inner → is_compiler_name name ≡ true → Tail text r →
      Compiled Tail (before ++ codes "(" ++ inner ++ name ++ text) (str_to_ascii_lowercase name, r)

-- an atom: a factor without `!` and parentheses around it
pub data Atom (Tail : List ℕ → Range → Type 0) : List ℕ → Cond → Type 0 where
  always : {text : List ℕ} → str_to_ascii_lowercase text ≡ codes "true" → Atom Tail text Always
  never : {text : List ℕ} → str_to_ascii_lowercase text ≡ codes "false" → Atom Tail text Never
  flag : {text f : List ℕ} → Worded (codes "flag") (Enclosed (Name is_flag_name)) text f → Atom Tail text (Flag f)
  os : {text x : List ℕ} → Worded (codes "os") (Enclosed (Name is_component_name)) text x → Atom Tail text (Os (system_of x))
  arch : {text x : List ℕ} → Worded (codes "arch") (Enclosed (Name is_component_name)) text x → Atom Tail text (Arch x)
  compiler : {text : List ℕ} {c : List ℕ × Range} → Worded (codes "impl") (Compiled Tail) text c → Atom Tail text (Impl c.0 c.1)

-- a factor: an atom, `!` and a factor, or a condition in parentheses; `InnerFactor` is the language of inner factors
pub data Factor (Tail : List ℕ → Range → Type 0) (InnerFactor : List ℕ → Cond → Type 0) : List ℕ → Cond → Type 0 where
  atom : {text : List ℕ} {c : Cond} → Atom Tail text c → Factor Tail InnerFactor text c
  negated : (blanks : List ℕ) {text : List ℕ} {c : Cond} → Blanks blanks → InnerFactor text c → Factor Tail InnerFactor (codes "!" ++ blanks ++ text) (Not c)
  inner_factor : (text after : List ℕ) {c : Cond} → Terms And Or InnerFactor text c → Blanks after → Factor Tail InnerFactor (codes "(" ++ text ++ after ++ codes ")") c

-- a factor inside a `(` or `!`, with at most so many open at once, this one included
unfoldable pub InnerFactor : (List ℕ → Range → Type 0) → ℕ → List ℕ → Cond → Type 0
InnerFactor Tail zero text c = ⊥
InnerFactor Tail (suc n) text c = Factor Tail (InnerFactor Tail n) text c

-- The text denotes this condition, with at most so many parentheses and `!` open at once.
pub data Reads (Tail : List ℕ → Range → Type 0) (deepest : ℕ) : List ℕ → Cond → Type 0 where
  reads : (text after : List ℕ) {c : Cond} → Terms And Or (Factor Tail (InnerFactor Tail deepest)) text c → Blanks after → Reads Tail deepest (text ++ after) c

-- the same, with as many parentheses open at once in a range
abbrev pub Stands : Spec → ℕ → List ℕ → Cond → Type 0
Stands spec deepest = Reads (Versions spec deepest) deepest

-- A test's range in the wider grammar: one more may be open, and in 2.4 a `{` may end the test inside its range.
pub data WiderVersions (spec : Spec) (deepest : ℕ) : List ℕ → Range → Type 0 where
  deeper : {text : List ℕ} {r : Range} → Versions spec (suc deepest) text r → WiderVersions spec deepest text r
  broken : (front : List ℕ) → is_old spec ≡ true → ranges.Viable spec deepest front → WiderVersions spec deepest (front ++ codes "{") Any

-- the text denotes this condition in the wider grammar
abbrev pub Wider : Spec → ℕ → List ℕ → Cond → Type 0
Wider spec deepest = Reads (WiderVersions spec deepest) (suc deepest)

-- only the wider grammar continues at this byte
pub data WiderAt (spec : Spec) (deepest : ℕ) (front : List ℕ) : List ℕ → Cause → Type 0 where
  -- one parenthesis or `!` too many
  too_deep : (b : ℕ) (rest : List ℕ) → (b == 40 || b == 33) ≡ true → first.Viable (Wider spec deepest) (front ++ b ∷ []) → WiderAt spec deepest front (b ∷ rest) TooDeep
  -- a set in 2.4
  needs_version : (rest : List ℕ) → first.Viable (Wider spec deepest) (front ++ codes "{") → WiderAt spec deepest front (123 ∷ rest) NeedsVersion

-- the cause after a viable prefix at which the text is stuck
pub data CauseAt (spec : Spec) (deepest : ℕ) (front rest : List ℕ) : Cause → Type 0 where
  wider : {cause : Cause} → WiderAt spec deepest front rest cause → CauseAt spec deepest front rest cause
  bad_cond : ((cause : Cause) → WiderAt spec deepest front rest cause → ⊥) → CauseAt spec deepest front rest BadCond

-- a viable prefix at which the text is stuck, and the cause there
abbrev pub FirstFault : Spec → ℕ → List ℕ → Cause → Type 0
FirstFault spec deepest = first.FirstFault (Stands spec deepest) (CauseAt spec deepest)
