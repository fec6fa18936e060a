-- Places of components by name.
use Rattle.std.proofs.Common.{◌≡◌, ℕ, suc, Bool, true, false, cond, List, [], ◌∷◌, ◌++◌, Some, length, slice_get, refl, ap, ◌∙◌, subst, arith, append_assoc}
use Rattle.std.specs.Prelude.{filter, if◌then◌else◌}
use Rattle.std.proofs.lemmas.Bool.{false≢true}
use Rattle.std.proofs.lemmas.List.{length-append}
use Rattle.plan_types.specs.declared.description.Component.{Component}
use Rattle.plan_components.specs.Known.{Names, has_name, passes_one}
use Rattle.plan_components.specs.Wanted.{places, places_from}

-- a place is kept if it passes the second test, which implies the first
step : (a b : Bool) (test : ℕ → Bool) (k : ℕ) (before after : List ℕ) → (b ≡ true → a ≡ true) → test k ≡ b → filter test before ≡ after
    → filter test (if a then k ∷ before else before) ≡ (if b then k ∷ after else after)
step true true test k before after h e rest = ap (λ x. cond x (k ∷ filter test before) (filter test before)) e ∙ ap (λ l. k ∷ l) rest
step true false test k before after h e rest = ap (λ x. cond x (k ∷ filter test before) (filter test before)) e ∙ rest
step false true test k before after h e rest = absurd (false≢true (h refl))
step false false test k before after h e rest = rest

at-end : (front : List Component) (component : Component) (rest : List Component) → slice_get (front ++ component ∷ rest) (length front) ≡ Some component
at-end [] component rest = refl
at-end (first ∷ front) component rest = at-end front component rest

module _ (test : Component → Bool) (name : List ℕ) (all : Names test name) where
  among-behind : (front components : List Component)
      → filter (λ i. passes_one test (slice_get (front ++ components) i)) (places_from (length front) (has_name name) components) ≡ places_from (length front) test components
  among-behind front [] = refl
  among-behind front (component ∷ rest) =
      let test_at = λ (whole : List Component) (i : ℕ). passes_one test (slice_get whole i) in
      let whole = front ++ component ∷ rest in
      let longer = front ++ component ∷ [] in
      let count : length longer ≡ suc (length front) = omega (arith, length-append front (component ∷ [])) in
      let behind : filter (test_at whole) (places_from (suc (length front)) (has_name name) rest) ≡ places_from (suc (length front)) test rest =
      subst (λ k. filter (test_at whole) (places_from k (has_name name) rest) ≡ places_from k test rest) count
      (subst (λ l. filter (test_at l) (places_from (length longer) (has_name name) rest) ≡ places_from (length longer) test rest) (append_assoc front (component ∷ []) rest)
      (among-behind longer rest)) in
      step (has_name name component) (test component) (test_at whole) (length front) (places_from (suc (length front)) (has_name name) rest) (places_from (suc (length front)) test rest)
      (all component) (ap (passes_one test) (at-end front component rest)) behind

  -- filtering the places of one name gives the components that pass a test, if all of these have the name
  pub among : (components : List Component) → filter (λ i. passes_one test (slice_get components i)) (places (has_name name) components) ≡ places test components
  among components = among-behind [] components
