-- A table with one more row.
use Rattle.std.proofs.Common.{◌≡◌, ℕ, ◌+◌, List, [], ◌∷◌, ◌++◌, length, refl, sym, subst, inl, inr, arith}
use Rattle.std.proofs.lemmas.Bool.{cases_lt}
use Rattle.std.proofs.lemmas.List.{length-append, get_or_append_left, get_or_push}
use Rattle.solver_index.specs.Orders.{IsTable}

pub no_rows : {X : Type 0} (Fits : ℕ → X → Type 0) (none : X) → IsTable 0 Fits none []
no_rows Fits none = record { count = refl; each = λ k below. absurd (omega (arith, below)) }

pub row_pushed : {X : Type 0} (n : ℕ) (Fits : ℕ → X → Type 0) (none : X) (rows new : List X) (row : X) → new ≡ rows ++ row ∷ [] → IsTable n Fits none rows → Fits n row → IsTable (n + 1) Fits none new
row_pushed n Fits none rows new row is table fits =
    subst (λ l. IsTable (n + 1) Fits none l) (sym is)
    (record {
      count = omega (arith, length-append rows (row ∷ []), table.count);
      each = λ k below. elim (cases_lt k n) [
        | inl less ↦ subst (Fits k) (sym (get_or_append_left rows (row ∷ []) none k (omega (arith, less, table.count)))) (table.each k less)
        | inr last ↦
            let same : k ≡ n = omega arith in
            let at-end : k ≡ length rows = omega (arith, same, table.count) in
            subst (Fits k) (sym (get_or_push rows row none k (sym at-end))) (subst (λ m. Fits m row) (sym same) fits)
      ];
    })
