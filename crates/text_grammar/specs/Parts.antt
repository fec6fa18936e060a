-- Languages built from parts. A language is a relation of texts and values.
use Rattle.std.specs.Prelude.{◌≡◌, ℕ, List, ◌++◌, codes}
use Rattle.std.specs.Str.{str_to_ascii_lowercase}
use Rattle.plan_types.specs.Bytes.{Blanks}

-- blanks, then a part
pub data Led {A : Type 0} (Part : List ℕ → A → Type 0) : List ℕ → A → Type 0 where
  led : (blanks : List ℕ) {text : List ℕ} {x : A} → Blanks blanks → Part text x → Led Part (blanks ++ text) x

-- blanks, a mark, then a part
pub data Behind {A : Type 0} (mark : List ℕ) (Part : List ℕ → A → Type 0) : List ℕ → A → Type 0 where
  behind : (blanks : List ℕ) {text : List ℕ} {x : A} → Blanks blanks → Part text x → Behind mark Part (blanks ++ mark ++ text) x

-- left-associative chains: each part is joined to all before it
pub data Chain {A B : Type 0} (join : A → B → A) (First : List ℕ → A → Type 0) (Next : List ℕ → B → Type 0) : List ℕ → A → Type 0 where
  one : {text : List ℕ} {x : A} → First text x → Chain join First Next text x
  more : {text next : List ℕ} {left : A} {right : B} → Chain join First Next text left → Next next right → Chain join First Next (text ++ next) (join left right)

-- factors joined by `&&`
abbrev pub Term : {A : Type 0} → (A → A → A) → (List ℕ → A → Type 0) → List ℕ → A → Type 0
Term both Factor = Chain both (Led Factor) (Behind (codes "&&") (Led Factor))

-- terms joined by `||`
abbrev pub Terms : {A : Type 0} → (A → A → A) → (A → A → A) → (List ℕ → A → Type 0) → List ℕ → A → Type 0
Terms both either Factor = Chain either (Term both Factor) (Behind (codes "||") (Term both Factor))

-- a word in any case, then a part
pub data Worded {A : Type 0} (word : List ℕ) (Part : List ℕ → A → Type 0) : List ℕ → A → Type 0 where
  worded : (letters : List ℕ) {text : List ℕ} {x : A} → str_to_ascii_lowercase letters ≡ word → Part text x → Worded word Part (letters ++ text) x
