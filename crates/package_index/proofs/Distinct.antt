-- Lists whose elements have distinct keys.
use Rattle.std.proofs.Common.{◌≡◌, ℕ, ◌≤◌, Bool, true, false, cond, List, [], ◌∷◌, length, map, filter, refl, sym, ap, ◌∙◌, arith}
use Rattle.std.specs.List.{IsDistinct}
use Rattle.std.specs.Cmp.Lexicographic.{bytes_decides}
use Rattle.std.proofs.lemmas.Cmp.{nat_list_eq_equiv}
use Rattle.common_laws.specs.Each.{each-map, each-of-map, each-passed, each-then, filter-none}
use Rattle.plan_types.specs.Bytes.{same_text}

module _ {X : Type 0} (key : X → List ℕ) where
  pub once-kept : (p : X → Bool) (xs : List X) → IsDistinct same_text (map key xs) → IsDistinct same_text (map key (filter p xs))
  unfolding IsDistinct
  once-kept p [] once = tt
  once-kept p (x ∷ xs) once =
      let rest = once-kept p xs once.1 in
      let apart = each-of-map (λ k. same_text (key x) k ≡ false) key xs once.0 in
      elim (p x) as (λ b. IsDistinct same_text (map key (cond b (x ∷ filter p xs) (filter p xs)))) [
        | true ↦ (each-map (λ k. same_text (key x) k ≡ false) key (filter p xs) (each-passed p (λ y. same_text (key x) (key y) ≡ false) xs (each-then (λ y. same_text (key x) (key y) ≡ false) (λ y. p y ≡ true → same_text (key x) (key y) ≡ false) xs (λ y e passes. e) apart)), rest)
        | false ↦ rest
      ]

  abbrev pub is_named : List ℕ → X → Bool
  is_named name x = same_text (key x) name

  -- an element whose key differs from that of a named one doesn't have the name
  pub other-name : (name : List ℕ) (x y : X) → is_named name x ≡ true → same_text (key x) (key y) ≡ false → is_named name y ≡ false
  other-name name x y named apart =
      nat_list_eq_equiv.symm (key y) name ∙ ap (λ n. same_text n (key y)) (sym ((bytes_decides (key x) name).0 named)) ∙ apart

  -- at most one element has the name
  pub one-named : (name : List ℕ) (xs : List X) → IsDistinct same_text (map key xs) → length (filter (is_named name) xs) ≤ 1
  unfolding IsDistinct
  one-named name [] once = omega arith
  one-named name (x ∷ xs) once =
      elim (is_named name x) as (λ b. is_named name x ≡ b → length (cond b (x ∷ filter (is_named name) xs) (filter (is_named name) xs)) ≤ 1) [
        | true ↦ λ e.
            let none = filter-none (is_named name) xs (each-then (λ y. same_text (key x) (key y) ≡ false) (λ y. is_named name y ≡ false) xs (λ y apart. other-name name x y e apart) (each-of-map (λ k. same_text (key x) k ≡ false) key xs once.0)) in
            let short : length (filter (is_named name) xs) ≡ 0 = ap length none in
            omega (arith, short)
        | false ↦ λ e. one-named name xs once.1
      ] refl
