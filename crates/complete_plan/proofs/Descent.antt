-- Where things are finite in number and no way leads back, what passes from all that a thing needs to the thing holds of each.
use Rattle.std.proofs.Common.{◌<◌, ℕ, zero, suc, List, length, sym, subst, arith}
use Rattle.std.specs.List.{Contains}
use Rattle.common_laws.specs.Graphs.{HasNoCycle, IsPath, last, more}
use Rattle.common_laws.specs.Lists.{without}

module _ {X : Type 0} (Edge : X → X → Type 0) (none : HasNoCycle Edge) (P : X → Type 0) (step : (x : X) → ((y : X) → Edge x y → P y) → P x) where
  -- what is reached from x is among those that are left
  below : (fuel : ℕ) (left : List X) (x : X) → length left < fuel → ((y : X) → IsPath Edge x y → Contains left y) → P x
  below zero left x less reached = absurd (omega (arith, less))
  below (suc fuel) left x less reached =
      step x (λ y e.
      let rest = without left y (reached y (last e)) in
      let fewer = rest.1 in
      below fuel rest.0 y (omega (arith, less, fewer))
      (λ z p. rest.2 z (reached z (more e p)) (λ same. none y (subst (IsPath Edge y) (sym same) p))))

  pub descends : (all : List X) (x : X) → ((y : X) → IsPath Edge x y → Contains all y) → P x
  descends all x reached = below (suc (length all)) all x (omega arith) reached
