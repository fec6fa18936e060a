-- Rings of nodes: from the ends of a ring to its first node, on from node to node, and back to the ends.
use Rattle.std.specs.Prelude.{◌≡◌, ℕ, zero, suc, ◌<◌, Bool, true, false, eqb, cond, List, [], ◌∷◌, length, Option, Some, None, slice_index_or}
use Rattle.std.specs.List.{Contains}
use Rattle.goal_links.specs.declared.ring.RingNode.{RingNode}

-- the node for a number that no node has
abbrev pub no_node : RingNode
no_node = record { prev = None; next = None }

-- the node at a place, or the ends of the ring
abbrev pub node_at : RingNode → List RingNode → Option ℕ → RingNode
node_at ends nodes None = ends
node_at ends nodes (Some n) = slice_index_or nodes n no_node

-- the next node of a place
abbrev pub next_at : RingNode → List RingNode → Option ℕ → Option ℕ
next_at ends nodes place = (node_at ends nodes place).next

-- the previous node of a place
abbrev pub prev_at : RingNode → List RingNode → Option ℕ → Option ℕ
prev_at ends nodes place = (node_at ends nodes place).prev

-- whether two places are the same
abbrev pub same_place : Option ℕ → Option ℕ → Bool
same_place None None = true
same_place None (Some n) = false
same_place (Some m) None = false
same_place (Some m) (Some n) = eqb m n

-- the map with this value at one place
abbrev pub with_place : Option ℕ → Option ℕ → (Option ℕ → Option ℕ) → Option ℕ → Option ℕ
with_place place to old at = cond (same_place place at) to (old at)

-- the next node of each place after a node is unlinked
abbrev pub next_without : RingNode → List RingNode → ℕ → Option ℕ → Option ℕ
next_without ends nodes n = with_place (prev_at ends nodes (Some n)) (next_at ends nodes (Some n)) (next_at ends nodes)

-- the previous node of each place likewise
abbrev pub prev_without : RingNode → List RingNode → ℕ → Option ℕ → Option ℕ
prev_without ends nodes n = with_place (next_at ends nodes (Some n)) (prev_at ends nodes (Some n)) (prev_at ends nodes)

-- the next node of each place after a node is linked between its neighbours
abbrev pub next_with : RingNode → List RingNode → ℕ → Option ℕ → Option ℕ
next_with ends nodes n = with_place (prev_at ends nodes (Some n)) (Some n) (next_at ends nodes)

-- the previous node of each place likewise
abbrev pub prev_with : RingNode → List RingNode → ℕ → Option ℕ → Option ℕ
prev_with ends nodes n = with_place (next_at ends nodes (Some n)) (Some n) (prev_at ends nodes)

-- the place is the ends, or a node below count
abbrev pub IsWithin : ℕ → Option ℕ → Type 0
IsWithin count None = Unit {0}
IsWithin count (Some n) = n < count

-- the path from one place to another has these nodes, both forwards and backwards
abbrev pub IsPath : (next prev : Option ℕ → Option ℕ) (count : ℕ) («from» : Option ℕ) (ns : List ℕ) (to : Option ℕ) → Type 0
IsPath next prev count «from» [] to = (next «from» ≡ to) × (prev to ≡ «from»)
IsPath next prev count «from» (n ∷ ns) to =
    (next «from» ≡ Some n) × (prev (Some n) ≡ «from») × (n < count) × IsPath next prev count (Some n) ns to

-- the ring has these nodes, in order
abbrev pub IsRing : RingNode → List RingNode → List ℕ → Type 0
IsRing ends nodes ns = IsPath (next_at ends nodes) (prev_at ends nodes) (length nodes) None ns None

-- no node of a list is repeated, and the one before the list isn't in it
abbrev pub AreOnce : Option ℕ → List ℕ → Type 0
AreOnce start [] = Unit {0}
AreOnce start (n ∷ ns) = ((k : ℕ) → Contains (n ∷ ns) k → start ≡ Some k → ⊥) × AreOnce (Some n) ns

-- the nodes from a place on, at most count
abbrev pub nodes_from : List RingNode → ℕ → Option ℕ → List ℕ
nodes_from nodes zero place = []
nodes_from nodes (suc count) None = []
nodes_from nodes (suc count) (Some n) = n ∷ nodes_from nodes count ((slice_index_or nodes n no_node).next)

-- the nodes of a ring
abbrev pub ring_of : RingNode → List RingNode → List ℕ
ring_of ends nodes = nodes_from nodes (length nodes) ends.next
