-- The definitions on small graphs.
use Rattle.std.specs.Prelude.{ℕ, zero, suc, ◌<◌, List, [], ◌∷◌, Some, refl}
use Rattle.std.proofs.Common.{arith}
use Rattle.component_cycle.specs.Cycle.{IsOnCycle, IsFirstOnCycle}
use Rattle.common_laws.specs.Graphs.{Needs, IsPath, last, more}

-- 0 needs 1, and 1 and 2 need each other
abbrev led_to : List (List ℕ)
led_to = (1 ∷ []) ∷ (2 ∷ []) ∷ (1 ∷ []) ∷ []

one_on_cycle : IsOnCycle led_to 1
one_on_cycle = more {w = 2} (0, omega arith, refl) (last (0, omega arith, refl))

-- no path of it leads to 0
never-zero : (u v : ℕ) → IsPath (Needs led_to) u v → 0 < v
never-zero zero v (last (zero, l, e)) = omega (arith, e)
never-zero (suc zero) v (last (zero, l, e)) = omega (arith, e)
never-zero (suc (suc zero)) v (last (zero, l, e)) = omega (arith, e)
never-zero zero v (last (suc k, l, e)) = absurd (omega (arith, l))
never-zero (suc zero) v (last (suc k, l, e)) = absurd (omega (arith, l))
never-zero (suc (suc zero)) v (last (suc k, l, e)) = absurd (omega (arith, l))
never-zero (suc (suc (suc n))) v (last (k, l, e)) = absurd (omega (arith, l))
never-zero u v (more {w = x} e p) = never-zero x v p

first_of_led_to : IsFirstOnCycle led_to (Some 1)
first_of_led_to = (one_on_cycle, λ v c. never-zero v v c)
