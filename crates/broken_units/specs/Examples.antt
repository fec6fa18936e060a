-- The definitions on small graphs.
use Rattle.std.specs.Prelude.{ℕ, zero, suc, ◌≡◌, Bool, true, false, List, [], ◌∷◌, refl}
use Rattle.std.proofs.Common.{arith, sym, subst}
use Rattle.broken_units.specs.Leads.{ReachesMarked, here, over}
use Rattle.common_laws.specs.Graphs.{IsMarked, Needs}

-- 0 needs 1, which needs 2, and 3 needs itself
abbrev needs : List (List ℕ)
needs = (1 ∷ []) ∷ (2 ∷ []) ∷ [] ∷ (3 ∷ []) ∷ []

abbrev marked : List Bool
marked = false ∷ false ∷ true ∷ false ∷ []

over_one : ReachesMarked needs marked 0
over_one = over 1 (0, omega arith, refl) (over 2 (0, omega arith, refl) (here refl))

-- 3 needs 3 alone
three_needs : (v : ℕ) → Needs needs 3 v → v ≡ 3
three_needs v (zero, l, e) = sym e
three_needs v (suc k, l, e) = absurd (omega (arith, l))

three_does_not : (u : ℕ) → u ≡ 3 → ReachesMarked needs marked u → ⊥
three_does_not u is (here m) = let no : false ≡ true = subst (λ w. IsMarked marked w) is m in cc
three_does_not u is (over v n l) = three_does_not v (three_needs v (subst (λ w. Needs needs w v) is n)) l
