-- A slash at the end of a text.
use Rattle.std.proofs.Common.{◌≡◌, ◌≢◌, ℕ, Bool, true, false, List, [], ◌∷◌, ◌++◌, refl, ap, if◌then◌else◌}
use Rattle.std.specs.Prelude.{◌==◌}
use Rattle.std.proofs.lemmas.Bool.{eqb-true}
use Rattle.project_paths.specs.Patterns.{ends_in_slash, stem}

pub stem-push : (text : List ℕ) → stem (text ++ 47 ∷ []) ≡ text
stem-push [] = refl
stem-push (b ∷ []) = refl
stem-push (b ∷ c ∷ bs) = ap (λ l. b ∷ l) (stem-push (c ∷ bs))

pub ends-push : (text : List ℕ) → ends_in_slash (text ++ 47 ∷ []) ≡ true
ends-push [] = refl
ends-push (b ∷ []) = refl
ends-push (b ∷ c ∷ bs) = ends-push (c ∷ bs)

abbrev Bare : List ℕ → Type 0
Bare text = (text ≡ stem text) × (false ≡ ends_in_slash text)

last-bare : (b : ℕ) (t : Bool) → (b == 47) ≡ t → (((front : List ℕ) → b ∷ [] ≢ front ++ 47 ∷ [])) → (b ∷ [] ≡ (if t then [] else b ∷ [])) × (false ≡ t)
last-bare b true e never = absurd (never [] (ap (λ n. n ∷ []) (eqb-true b 47 e)))
last-bare b false e never = (refl, refl)

-- a text without a slash at its end
pub bare : (text : List ℕ) → ((front : List ℕ) → text ≢ front ++ 47 ∷ []) → Bare text
bare [] never = (refl, refl)
bare (b ∷ []) never = last-bare b (b == 47) refl never
bare (b ∷ c ∷ bs) never =
    let rest = bare (c ∷ bs) (λ front e. never (b ∷ front) (ap (λ l. b ∷ l) e)) in
    (ap (λ l. b ∷ l) rest.0, rest.1)
