-- The first byte of a text at which no reading continues, in a language `Stands`.
use Rattle.std.specs.Prelude.{◌≡◌, ℕ, List, [], ◌∷◌, ◌++◌}
use Rattle.plan_types.specs.declared.refusal.Cause.{Cause}

-- a viable prefix: some bytes complete it to a text of the language
abbrev pub Viable : {A : Type 0} → (List ℕ → A → Type 0) → List ℕ → Type 0
Viable {A} Stands front = (more : List ℕ) × (x : A) × Stands (front ++ more) x

-- no completion begins with the first byte of the rest; at the end of the text, the prefix isn't in the language
abbrev pub Stuck : {A : Type 0} → (List ℕ → A → Type 0) → List ℕ → List ℕ → Type 0
Stuck {A} Stands front [] = (x : A) → Stands front x → ⊥
Stuck Stands front (b ∷ rest) = Viable Stands (front ++ b ∷ []) → ⊥

-- a viable prefix at which the text is stuck, and the cause there
pub record FirstFault {A : Type 0} (Stands : List ℕ → A → Type 0) (CauseAt : List ℕ → List ℕ → Cause → Type 0) (text : List ℕ) (cause : Cause) : Type 0 where
  pub front : List ℕ
  pub rest : List ℕ
  pub whole : text ≡ front ++ rest
  pub goes_on : Viable Stands front
  pub stops : Stuck Stands front rest
  pub is : CauseAt front rest cause
