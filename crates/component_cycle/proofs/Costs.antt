-- The remaining work falls when a node is first seen.
use Rattle.std.proofs.Common.{◌≡◌, ◌≢◌, ℕ, zero, suc, ◌+◌, ◌<◌, List, [], ◌∷◌, length, get_or, set, refl, arith}
use Rattle.component_cycle.specs.declared.search.NodeState.{NodeState}
use Rattle.component_cycle.specs.declared.search.NodeState.TheVariants.{Unseen, OnPath, Finished}
use Rattle.component_cycle.specs.Search.{cost, costs}

pub costs-set : (needs : List (List ℕ)) (states : List NodeState) (v : ℕ) (x : NodeState) → v < length needs → length states ≡ length needs
    → costs needs (set states v x) + cost (get_or needs v []) (get_or states v Unseen) ≡ costs needs states + cost (get_or needs v []) x
costs-set [] states v x h e = absurd (omega (arith, h))
costs-set (ns ∷ needs) [] v x h e = absurd (omega (arith, e))
costs-set (ns ∷ needs) (y ∷ states) zero x h e = omega arith
costs-set (ns ∷ needs) (y ∷ states) (suc v) x h e =
    let rest = costs-set needs states v x (omega (arith, h)) (omega (arith, e)) in
    omega (arith, rest)

-- a seen node costs nothing
pub cost-seen : (ns : List ℕ) (x : NodeState) → x ≢ Unseen → cost ns x ≡ 0
cost-seen ns Unseen h = absurd (h refl)
cost-seen ns (OnPath i) h = refl
cost-seen ns (Finished b) h = refl
