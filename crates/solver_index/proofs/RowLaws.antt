-- Rows kept by index: one more, a present one, an absent one.
use Rattle.std.proofs.Common.{◌≡◌, ◌⊎◌, ℕ, zero, suc, ◌+◌, List, [], ◌∷◌, ◌++◌, length, refl, sym, ap, ◌∙◌, subst, inl, inr, arith}
use Rattle.std.specs.Prelude.{Some, slice_get}
use Rattle.std.proofs.lemmas.List.{length-append}
use Rattle.solver_index.specs.Rows.{AreRows}

got-pushed : {X : Type 0} (xs : List X) (y : X) (k : ℕ) (z : X) → slice_get (xs ++ y ∷ []) k ≡ Some z → (slice_get xs k ≡ Some z) ⊎ ((k ≡ length xs) × (y ≡ z))
got-pushed [] y zero z h = inr (refl, cc h)
got-pushed [] y (suc k) z h = absurd (cc h)
got-pushed (x ∷ xs) y zero z h = inl h
got-pushed (x ∷ xs) y (suc k) z h = elim (got-pushed xs y k z h) [ inl e ↦ inl e | inr e ↦ inr (ap suc e.0, e.1) ]

pub rows_pushed : {X : Type 0} (n : ℕ) (Fits : ℕ → X → Type 0) (rows new : List X) (row : X) → new ≡ rows ++ row ∷ [] → AreRows n Fits rows → Fits n row → AreRows (n + 1) Fits new
rows_pushed n Fits rows new row is are one =
    subst (λ l. AreRows (n + 1) Fits l) (sym is)
    (record {
      count = omega (arith, length-append rows (row ∷ []), are.count);
      each = λ k found h. elim (got-pushed rows row k found h) [
        | inl before ↦ are.each k found before
        | inr last ↦ subst (Fits k) last.1 (subst (λ m. Fits m row) (sym (last.0 ∙ are.count)) one)
      ];
    })
