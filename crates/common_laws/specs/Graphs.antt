-- Graphs as adjacency lists (for each node the nodes that it needs), and paths.
use Rattle.std.proofs.Common.{arith}
use Rattle.std.specs.Prelude.{◌≡◌, ◌<◌, ℕ, zero, suc, Bool, true, false, List, [], ◌∷◌, length, All, Contains, slice_index_or}

-- a path of one or more edges
pub data IsPath {X : Type 0} (Edge : X → X → Type 0) : X → X → Type 0 where
  last : {v w : X} → Edge v w → IsPath Edge v w
  more : {v w x : X} → Edge v w → IsPath Edge w x → IsPath Edge v x

-- there is no cycle
abbrev pub HasNoCycle : {X : Type 0} → (X → X → Type 0) → Type 0
HasNoCycle Edge = (v : _) → IsPath Edge v v → ⊥

-- an edge from u to v: u needs v
abbrev pub Needs : List (List ℕ) → ℕ → ℕ → Type 0
Needs needs u v = Contains (slice_index_or needs u []) v

-- well-formed: each edge leads to a node of the graph
abbrev pub IsGraph : List (List ℕ) → Type 0
IsGraph needs = All (All (λ v. v < length needs)) needs

-- a node is marked
abbrev pub IsMarked : List Bool → ℕ → Type 0
IsMarked marked u = slice_index_or marked u false ≡ true

pub needs_within : (needs : List (List ℕ)) (u v : ℕ) → Needs needs u v → u < length needs
needs_within [] u v (k, l, e) = absurd (omega (arith, l))
needs_within (n ∷ ns) zero v h = omega arith
needs_within (n ∷ ns) (suc u) v h = let i = needs_within ns u v h in omega arith

pub marked_within : (marks : List Bool) (u : ℕ) → IsMarked marks u → u < length marks
marked_within [] u h = absurd (cc)
marked_within (b ∷ bs) zero h = omega arith
marked_within (b ∷ bs) (suc u) h = let k = marked_within bs u h in omega arith
