-- The first element with a name is the only one.
use Rattle.std.proofs.Common.{◌≡◌, ℕ, zero, suc, Bool, true, false, List, [], ◌∷◌, map, get_or, Some, None, refl, sym, ap, ◌∙◌}
use Rattle.std.specs.Prelude.{position}
use Rattle.std.specs.List.{AllByRecursion, IsDistinct, list_any, slice_get}
use Rattle.std.specs.Option.{option_map}
use Rattle.std.proofs.lemmas.Bool.{false≢true, or_parts}
use Rattle.std.proofs.lemmas.Cmp.{nat_list_eq_equiv}
use Rattle.std.proofs.lemmas.List.Quantifiers.{position-Some}
use Rattle.std.proofs.lemmas.Option.{none-some, same_Some, slice_get-get_or, slice_get-map}
use Rattle.package_declarations.proofs.FirstPlaces.{position-none}
use Rattle.package_index.proofs.Distinct.{is_named, other-name}
use Rattle.common_laws.specs.Each.{each-at, each-of-map, each-then, some-map}
use Rattle.plan_types.specs.Bytes.{same_text}

-- none passes
pub each-fails : {A : Type 0} (p : A → Bool) (xs : List A) → list_any p xs ≡ false → AllByRecursion (λ x. p x ≡ false) xs
each-fails p [] none = tt
each-fails p (x ∷ xs) none =
    let parts = or_parts (p x) (list_any p xs) none in
    (parts.0, each-fails p xs parts.1)

module _ {X : Type 0} (key : X → List ℕ) where
  pub found-at : (test : List ℕ → Bool) (xs : List X) (i : ℕ) → position test (map key xs) ≡ Some i → (x : X) × (slice_get xs i ≡ Some x) × (test (key x) ≡ true)
  found-at test xs i at =
      let place = position-Some test (map key xs) i [] at in
      let there : option_map key (slice_get xs i) ≡ Some (get_or (map key xs) i []) = sym (slice_get-map key xs i) ∙ slice_get-get_or (map key xs) i [] place.0 in
      elim (slice_get xs i) as (λ o. option_map key o ≡ Some (get_or (map key xs) i []) → (x : X) × (o ≡ Some x) × (test (key x) ≡ true)) [
        | None ↦ λ e. absurd (none-some (get_or (map key xs) i []) e)
        | Some x ↦ λ e. (x, refl, ap test (same_Some (key x) (get_or (map key xs) i []) e) ∙ place.1)
      ] there

  -- each element with the name is the one that was found
  pub the-only-one : (name : List ℕ) (xs : List X) (i : ℕ) (found : X) → IsDistinct same_text (map key xs) → slice_get xs i ≡ Some found → is_named key name found ≡ true → AllByRecursion (λ x. is_named key name x ≡ true → x ≡ found) xs
  unfolding IsDistinct
  the-only-one name [] i found once at named = tt
  the-only-one name (x ∷ xs) zero found once at named = (
    λ e. same_Some x found at,
    each-then (λ y. same_text (key x) (key y) ≡ false) (λ y. is_named key name y ≡ true → y ≡ found) xs
        (λ y apart e. absurd (false≢true (sym (other-name key name x y (ap (is_named key name) (same_Some x found at) ∙ named) apart) ∙ e)))
        (each-of-map (λ k. same_text (key x) k ≡ false) key xs once.0),
  )
  the-only-one name (x ∷ xs) (suc i) found once at named = (
    λ e. absurd (false≢true (sym (other-name key name x found e (each-at (λ y. same_text (key x) (key y) ≡ false) xs i found (each-of-map (λ k. same_text (key x) k ≡ false) key xs once.0) at)) ∙ named)),
    the-only-one name xs i found once.1 at named,
  )

  -- if none is found, none has the name
  pub none-named : (name : List ℕ) (xs : List X) → position (same_text name) (map key xs) ≡ None → AllByRecursion (λ x. is_named key name x ≡ true → ⊥) xs
  none-named name xs none =
      let fails = each-fails (λ x. same_text name (key x)) xs (sym (some-map (same_text name) key xs) ∙ position-none (same_text name) (map key xs) none) in
      each-then (λ x. same_text name (key x) ≡ false) (λ x. is_named key name x ≡ true → ⊥) xs (λ x fail e. false≢true (sym fail ∙ nat_list_eq_equiv.symm name (key x) ∙ e)) fails
