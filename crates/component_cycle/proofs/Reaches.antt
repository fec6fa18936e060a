-- Joined paths, and properties that are closed under edges.
use Rattle.std.proofs.Common.{◌≢◌, ◌<◌, ℕ, List, [], length, subst, sym, ap, inl, inr, arith}
use Rattle.std.proofs.lemmas.Bool.{cases_lt}
use Rattle.std.proofs.lemmas.List.{get_or_past}
use Rattle.common_laws.specs.Graphs.{IsGraph, IsPath, Needs, last, more, needs_within}
use Rattle.component_cycle.specs.Search.{Reaches}

pub path-join : (needs : List (List ℕ)) (u v w : ℕ) → IsPath (Needs needs) u v → IsPath (Needs needs) v w → IsPath (Needs needs) u w
path-join needs u v w (last e) q = more e q
path-join needs u v w (more {w = x} e p) q = more e (path-join needs x v w p q)

pub reaches-path : (needs : List (List ℕ)) (u v w : ℕ) → Reaches needs u v → IsPath (Needs needs) v w → IsPath (Needs needs) u w
reaches-path needs u v w (inl e) q = subst (λ x. IsPath (Needs needs) x w) (sym e) q
reaches-path needs u v w (inr p) q = path-join needs u v w p q

pub path-reaches : (needs : List (List ℕ)) (u v w : ℕ) → IsPath (Needs needs) u v → Reaches needs v w → IsPath (Needs needs) u w
path-reaches needs u v w p (inl e) = subst (λ x. IsPath (Needs needs) u x) e p
path-reaches needs u v w p (inr q) = path-join needs u v w p q

pub path-apart : (needs : List (List ℕ)) (u v : ℕ) → u ≢ v → Reaches needs u v → IsPath (Needs needs) u v
path-apart needs u v ne (inl e) = absurd (ne e)
path-apart needs u v ne (inr p) = p

-- a property that edges keep is kept by paths
pub path-keeps : (needs : List (List ℕ)) (P : ℕ → Type 0) → ((u v : ℕ) → P u → Needs needs u v → P v) → (u v : ℕ) → P u → IsPath (Needs needs) u v → P v
path-keeps needs P closed u v h (last e) = closed u v h e
path-keeps needs P closed u v h (more {w = x} e p) = path-keeps needs P closed x v (closed u x h e) p

-- each edge leads to a node of the graph
pub to-edge : (needs : List (List ℕ)) → IsGraph needs → (u v : ℕ) → Needs needs u v → v < length needs
to-edge needs h u v (k, l, e) = let below = h u [] (needs_within needs u v (k, l, e)) k v l in omega (arith, below, e)
