-- The marks of units that lack one are unique.
use Rattle.std.proofs.Common.{◌≡◌, ◌↔◌, ℕ, zero, suc, Bool, true, false, List, [], ◌∷◌, length, refl, sym, ◌∙◌, ap, arith}
use Rattle.common_laws.specs.Graphs.{IsMarked}
use Rattle.index_assembly.specs.Lacks.{AreLacking}
use Rattle.index_files.specs.declared.unit.Unit.{Unit}

as-marked : (a b : Bool) → ((a ≡ true) ↔ (b ≡ true)) → a ≡ b
as-marked true b h = sym (h.0 refl)
as-marked false true h = h.1 refl
as-marked false false h = refl

-- lists of the same length with the same marks are equal
same-marks : (a b : List Bool) → length a ≡ length b → ((i : ℕ) → IsMarked a i → IsMarked b i) → ((i : ℕ) → IsMarked b i → IsMarked a i) → a ≡ b
same-marks [] [] l there back = refl
same-marks [] (y ∷ b) l there back = absurd (grind (arith, l))
same-marks (x ∷ a) [] l there back = absurd (grind (arith, l))
same-marks (x ∷ a) (y ∷ b) l there back =
    ap (λ m. m ∷ a) (as-marked x y (there zero, back zero))
    ∙ ap (λ ms. y ∷ ms) (same-marks a b (omega (arith, l)) (λ i. there (suc i)) (λ i. back (suc i)))

pub one-lacking : (units : List Unit) (a b : List Bool) → AreLacking units a → AreLacking units b → a ≡ b
one-lacking units a b h k =
    same-marks a b (h.length_is ∙ sym k.length_is) (λ i m. (k.leads i).1 ((h.leads i).0 m)) (λ i m. (h.leads i).1 ((k.leads i).0 m))
