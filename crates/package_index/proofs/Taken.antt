-- Removing the elements of one list from another.
use Rattle.std.proofs.Common.{◌≡◌, ℕ, ◌+◌, false, inl, inr, List, [], ◌∷◌, ◌++◌, length, map, refl, sym, ◌∙◌, ap, subst, arith, length-append}
use Rattle.std.specs.Prelude.{◌⊎◌, flat_map}
use Rattle.std.specs.List.{AllByRecursion, IsDistinct}
use Rattle.std.specs.Cmp.Lexicographic.{bytes_decides}
use Rattle.std.proofs.lemmas.Bool.{true≢false}
use Rattle.std.proofs.lemmas.List.{nil_from_length}
use Rattle.outside_folder.specs.Files.{Bytes}
use Rattle.plan_types.specs.Bytes.{same_text}

module _ {X : Type 0} where
  abbrev pub IsIn : List X → X → Type 0
  IsIn [] x = ⊥
  IsIn (y ∷ ys) x = (x ≡ y) ⊎ IsIn ys x

  -- the rest of a list without the elements of another
  abbrev pub Leaves : List X → List X → List X → Type 0
  Leaves [] ys rest = ys ≡ rest
  Leaves (x ∷ xs) ys rest = (before : List X) × (behind : List X) × (ys ≡ before ++ x ∷ behind) × Leaves xs (before ++ behind) rest

  pub at-in : (P : X → Type 0) (xs : List X) (x : X) → AllByRecursion P xs → IsIn xs x → P x
  at-in P [] x h i = absurd i
  at-in P (y ∷ xs) x h (inl e) = subst P (sym e) h.0
  at-in P (y ∷ xs) x h (inr i) = at-in P xs x h.1 i

  split : (ys : List X) (x : X) → IsIn ys x → (before : List X) × (behind : List X) × (ys ≡ before ++ x ∷ behind)
  split [] x h = absurd h
  split (y ∷ ys) x (inl e) = ([], ys, ap (λ z. z ∷ ys) (sym e))
  split (y ∷ ys) x (inr h) = let s = split ys x h in (y ∷ s.0, s.1, ap (λ zs. y ∷ zs) s.2)

  -- an element is the removed one, or another one
  pub in-rest : (before : List X) (x : X) (behind : List X) (z : X) → IsIn (before ++ x ∷ behind) z → (z ≡ x) ⊎ IsIn (before ++ behind) z
  in-rest [] x behind z h = h
  in-rest (y ∷ before) x behind z (inl e) = inr (inl e)
  in-rest (y ∷ before) x behind z (inr h) = elim (in-rest before x behind z h) [
    | inl e ↦ inl e
    | inr i ↦ inr (inr i)
  ]

  pub in-front : (before : List X) (behind : List X) (z : X) → IsIn before z → IsIn (before ++ behind) z
  in-front [] behind z h = absurd h
  in-front (y ∷ before) behind z (inl e) = inl e
  in-front (y ∷ before) behind z (inr h) = inr (in-front before behind z h)

  -- if nothing is left, all elements were removed
  pub in-taken : (xs ys : List X) (z : X) → Leaves xs ys [] → IsIn ys z → IsIn xs z
  in-taken [] ys z l h = subst (λ zs. IsIn zs z) l h
  in-taken (x ∷ xs) ys z l h = elim (in-rest l.0 x l.1 z (subst (λ zs. IsIn zs z) l.2 h)) [
    | inl e ↦ inl e
    | inr i ↦ inr (in-taken xs (l.0 ++ l.1) z l.3 i)
  ]

  left-length : (xs ys rest : List X) → Leaves xs ys rest → length ys ≡ length xs + length rest
  left-length [] ys rest l = let e = ap length l in omega (arith, e)
  left-length (x ∷ xs) ys rest l =
      let whole = ap length l.2 ∙ length-append l.0 (x ∷ l.1) in
      let less = length-append l.0 l.1 in
      let more = left-length xs (l.0 ++ l.1) rest l.3 in
      omega (arith, whole, less, more)

-- a count over a list is that of the removed elements and of the rest
module _ {X R : Type 0} (f : X → List R) (count : List R → ℕ) (add : (a b : List R) → count (a ++ b) ≡ count a + count b) where
  count-one : (before : List X) (x : X) (behind : List X) → count (flat_map f (before ++ x ∷ behind)) ≡ count (f x) + count (flat_map f (before ++ behind))
  count-one [] x behind = add (f x) (flat_map f behind)
  count-one (y ∷ before) x behind =
      let a = add (f y) (flat_map f (before ++ x ∷ behind)) in
      let b = add (f y) (flat_map f (before ++ behind)) in
      let c = count-one before x behind in
      omega (arith, a, b, c)

  pub left-count : (xs ys rest : List X) → count [] ≡ 0 → Leaves xs ys rest → count (flat_map f ys) ≡ count (flat_map f xs) + count (flat_map f rest)
  left-count [] ys rest none l = let e = ap (λ zs. count (flat_map f zs)) l in omega (arith, none, e)
  left-count (x ∷ xs) ys rest none l =
      let whole = ap (λ zs. count (flat_map f zs)) l.2 ∙ count-one l.0 x l.1 in
      let a = add (f x) (flat_map f xs) in
      let more = left-count xs (l.0 ++ l.1) rest none l.3 in
      omega (arith, whole, a, more)

-- ---- elements with distinct keys

module _ {X : Type 0} (key : X → Bytes) where
  apart : (x z : X) (xs : List X) → AllByRecursion (λ k. same_text (key x) k ≡ false) (map key xs) → IsIn xs z → same_text (key x) (key z) ≡ false
  apart x z [] h i = absurd i
  apart x z (y ∷ xs) h (inl e) = ap (λ w. same_text (key x) (key w)) e ∙ h.0
  apart x z (y ∷ xs) h (inr i) = apart x z xs h.1 i

  not-one : (x z : X) → same_text (key x) (key z) ≡ false → z ≡ x → ⊥
  not-one x z h e = true≢false (sym ((bytes_decides (key x) (key z)).1 (ap key (sym e))) ∙ h)

  pub keys-apart : (x z : X) (xs : List X) → IsDistinct same_text (map key (x ∷ xs)) → IsIn xs z → same_text (key x) (key z) ≡ false
  unfolding IsDistinct
  keys-apart x z xs d i = apart x z xs d.0 i

  -- distinct elements of a list can be removed from it
  pub taken : (xs ys : List X) → IsDistinct same_text (map key xs) → ((z : X) → IsIn xs z → IsIn ys z) → (rest : List X) × Leaves xs ys rest
  unfolding IsDistinct
  taken [] ys d within = (ys, refl)
  taken (x ∷ xs) ys d within =
      let s = split ys x (within x (inl refl)) in
      let others : (z : X) → IsIn xs z → IsIn (s.0 ++ s.1) z = λ z i. elim (in-rest s.0 x s.1 z (subst (λ zs. IsIn zs z) s.2 (within z (inr i)))) [
        | inl e ↦ absurd (not-one x z (apart x z xs d.0 i) e)
        | inr k ↦ k
      ] in
      let t = taken xs (s.0 ++ s.1) d.1 others in
      (t.0, (s.0, s.1, s.2, t.1))

  -- lists with the same distinct elements are permutations of each other
  pub taken-all : (xs ys : List X) → IsDistinct same_text (map key xs) → IsDistinct same_text (map key ys)
      → ((z : X) → IsIn xs z → IsIn ys z) → ((z : X) → IsIn ys z → IsIn xs z) → Leaves xs ys []
  taken-all xs ys d e there back =
      let t = taken xs ys d there in
      let u = taken ys xs e back in
      let a = left-length xs ys t.0 t.1 in
      let b = left-length ys xs u.0 u.1 in
      subst (Leaves xs ys) (nil_from_length t.0 (omega (arith, a, b))) t.1
