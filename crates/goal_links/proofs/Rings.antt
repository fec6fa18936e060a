-- The nodes of a ring, and a node linked or unlinked.
use Rattle.std.proofs.Common.{◌≡◌, ℕ, zero, suc, ◌<◌, ◌≤◌, arith, length, eqb, eqb-true, true, false, ◌||◌, List, [], ◌∷◌, Option, Some, None, refl, sym, ap, ◌∙◌, subst}
use Rattle.std.specs.List.{Contains, AllPairs}
use Rattle.std.proofs.lemmas.Bool.{false≢true}
use Rattle.std.proofs.lemmas.Bool.Decides.{Decides-eqb}
use Rattle.std.proofs.lemmas.Map.Steps.{length-le_from_distinct_below}
use Rattle.std.proofs.lemmas.Map.Made.{IsDistinct-from_AllPairs}
use Rattle.common_laws.specs.Lists.{contains-head, contains-tail, pairs-nil, pairs-cons}
use Rattle.goal_links.specs.declared.ring.RingNode.{RingNode}
use Rattle.goal_links.specs.Ring.{AreOnce, IsPath, IsRing, nodes_from, ring_of, next_at, prev_at}
use Rattle.goal_links.specs.Row.{has_node}
use Rattle.goal_links.proofs.Paths.{path-once, path-within, once-start}

pub has-contains : (ns : List ℕ) (n : ℕ) → has_node ns n ≡ true → Contains ns n
has-contains [] n h = absurd (false≢true h)
has-contains (m ∷ ns) n h =
    elim (eqb n m) as (λ b. eqb n m ≡ b → b || has_node ns n ≡ true → Contains (m ∷ ns) n) [
      | true ↦ λ e k. subst (λ x. Contains (m ∷ ns) x) (sym (eqb-true n m e)) (contains-head m ns)
      | false ↦ λ e k. contains-tail m ns n (has-contains ns n k)
    ] refl h

once-pairs : (start : Option ℕ) (ns : List ℕ) → AreOnce start ns → AllPairs (λ a b. a ≡ b → ⊥) ns
once-pairs start [] h = pairs-nil (λ a b. a ≡ b → ⊥)
once-pairs start (n ∷ ns) h = pairs-cons (λ a b. a ≡ b → ⊥) n ns (λ k c e. once-start (Some n) ns k h.1 c (ap Some e)) (once-pairs (Some n) ns h.1)

pub once-short : (start : Option ℕ) (ns : List ℕ) (count : ℕ) → AreOnce start ns → ((k : ℕ) → Contains ns k → k < count) → length ns ≤ count
once-short start ns count h within = length-le_from_distinct_below ns count (IsDistinct-from_AllPairs Decides-eqb ns (once-pairs start ns h)) (λ k c. within k (has-contains ns k c))

walk-is : (ends : RingNode) (nodes : List RingNode) (fuel : ℕ) (start : Option ℕ) (ns : List ℕ)
    → IsPath (next_at ends nodes) (prev_at ends nodes) (length nodes) start ns None → length ns ≤ fuel → nodes_from nodes fuel (next_at ends nodes start) ≡ ns
walk-is ends nodes zero start [] h k = refl
walk-is ends nodes zero start (n ∷ ns) h k = absurd (omega (arith, k))
walk-is ends nodes (suc fuel) start [] h k = ap (nodes_from nodes (suc fuel)) h.0
walk-is ends nodes (suc fuel) start (n ∷ ns) h k =
    ap (nodes_from nodes (suc fuel)) h.0 ∙ ap (λ l. n ∷ l) (walk-is ends nodes fuel (Some n) ns h.3 (omega (arith, k)))

module _ (ends : RingNode) (nodes : List RingNode) where
  pub ring-once : (ns : List ℕ) → IsRing ends nodes ns → AreOnce None ns
  ring-once ns h = path-once (next_at ends nodes) (prev_at ends nodes) (length nodes) None ns h

  pub ring-within : (ns : List ℕ) → IsRing ends nodes ns → (k : ℕ) → Contains ns k → k < length nodes
  ring-within ns h = path-within (next_at ends nodes) (prev_at ends nodes) (length nodes) None ns None h

  -- a ring has the nodes that a walk from its ends visits
  pub ring-is : (ns : List ℕ) → IsRing ends nodes ns → ring_of ends nodes ≡ ns
  ring-is ns h = walk-is ends nodes (length nodes) None ns h (once-short None ns (length nodes) (ring-once ns h) (ring-within ns h))
