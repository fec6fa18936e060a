-- The definitions on small graphs.
use Rattle.std.specs.Prelude.{ℕ, zero, suc, ◌≡◌, ◌≤◌, List, [], ◌∷◌, ◌++◌, length, refl}
use Rattle.std.proofs.Common.{arith, ap}
use Rattle.build_order.specs.Order.{IsReady, IsLeastReady, IsBuildOrder}

-- 0 needs 2, and 1 and 2 need nothing
abbrev needs : List (List ℕ)
needs = (2 ∷ []) ∷ [] ∷ [] ∷ []

-- 1 can be built first, and 0 can't
one_ready : IsReady needs [] 1
one_ready = record { node = omega arith; unplaced = λ c. omega (arith, c.1); met = λ v n. absurd (omega (arith, n.1)) }

zero_waits : IsReady needs [] 0 → ⊥
zero_waits r = let c = r.met 2 (0, omega arith, refl) in omega (arith, c.1)

one_is_least : (v : ℕ) → IsReady needs [] v → 1 ≤ v
one_is_least zero r = absurd (zero_waits r)
one_is_least (suc v) r = omega arith

one_first : IsLeastReady needs [] 1
one_first = record { ready = one_ready; least = one_is_least }

-- so no order begins with 2
not_two : (rest : List ℕ) → IsBuildOrder needs (2 ∷ rest) → ⊥
not_two rest b = let l : 2 ≤ 1 = (b.each [] rest 2 refl).least 1 one_ready in omega (arith, l)

-- 0 needs itself, and is never built
abbrev alone : List (List ℕ)
alone = (0 ∷ []) ∷ []

none_ready : (u : ℕ) → IsReady alone [] u → ⊥
none_ready zero r = let c = r.met 0 (0, omega arith, refl) in omega (arith, c.1)
none_ready (suc u) r = let l = r.node in omega (arith, l)

empty_split : (front rest : List ℕ) (u : ℕ) → [] ≡ front ++ u ∷ rest → IsLeastReady alone front u
empty_split [] rest u e = absurd (omega (arith, ap length e))
empty_split (f ∷ fs) rest u e = absurd (omega (arith, ap length e))

none_built : IsBuildOrder alone []
none_built = record { each = empty_split; whole = none_ready }
