-- Shared: two build orders of a graph are equal.
use Rattle.std.proofs.Common.{◌≡◌, ◌≤◌, ℕ, List, [], ◌∷◌, ◌++◌, refl, sym, subst, ap, ◌∙◌, arith}
use Rattle.std.proofs.lemmas.List.{append_assoc, append-nil}
use Rattle.build_order.specs.Order.{IsReady, IsBuildOrder}

module _ (needs : List (List ℕ)) where
  ended : (front rest : List ℕ) (u : ℕ) → IsBuildOrder needs (front ++ []) → IsBuildOrder needs (front ++ u ∷ rest) → ⊥
  ended front rest u a b = a.whole u (subst (λ f. IsReady needs f u) (sym (append-nil front)) (b.each front rest u refl).ready)

  one_further : (front rest : List ℕ) (u : ℕ) → IsBuildOrder needs (front ++ u ∷ rest) → IsBuildOrder needs ((front ++ u ∷ []) ++ rest)
  one_further front rest u a = subst (λ o. IsBuildOrder needs o) (sym (append_assoc front (u ∷ []) rest)) a

  pub same_rest : (front a b : List ℕ) → IsBuildOrder needs (front ++ a) → IsBuildOrder needs (front ++ b) → a ≡ b
  same_rest front [] [] x y = refl
  same_rest front [] (v ∷ bs) x y = absurd (ended front bs v x y)
  same_rest front (u ∷ us) [] x y = absurd (ended front us u y x)
  same_rest front (u ∷ us) (v ∷ bs) x y =
      let p = x.each front us u refl in
      let q = y.each front bs v refl in
      let e : u ≡ v = let up : u ≤ v = p.least v q.ready in let down : v ≤ u = q.least u p.ready in omega (arith, up, down) in
      let y' = one_further front bs u (subst (λ k. IsBuildOrder needs (front ++ k ∷ bs)) (sym e) y) in
      ap (λ k. k ∷ us) e ∙ ap (λ l. v ∷ l) (same_rest (front ++ u ∷ []) us bs (one_further front us u x) y')
