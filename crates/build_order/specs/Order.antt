-- The order in which the nodes of a graph can be built. Each node has the list of its needs.
use Rattle.std.specs.Prelude.{◌≡◌, ◌<◌, ◌≤◌, ℕ, List, ◌∷◌, ◌++◌, length, Contains}
use Rattle.common_laws.specs.Graphs.{Needs}

-- u can be built next: it isn't placed, and all its needs are
pub record IsReady (needs : List (List ℕ)) (placed : List ℕ) (u : ℕ) : Type 0 where
  pub node : u < length needs
  pub unplaced : Contains placed u → ⊥
  pub met : (v : ℕ) → Needs needs u v → Contains placed v

-- u is the least node that can be built next
pub record IsLeastReady (needs : List (List ℕ)) (placed : List ℕ) (u : ℕ) : Type 0 where
  pub ready : IsReady needs placed u
  pub least : (v : ℕ) → IsReady needs placed v → u ≤ v

-- each node of the order was the least that could be built next, and after the last none can be
pub record IsBuildOrder (needs : List (List ℕ)) (order : List ℕ) : Type 0 where
  pub each : (front rest : List ℕ) (u : ℕ) → order ≡ front ++ u ∷ rest → IsLeastReady needs front u
  pub whole : (u : ℕ) → IsReady needs order u → ⊥

-- each node of the order comes after its needs
abbrev pub AreBehindNeeds : List (List ℕ) → List ℕ → Type 0
AreBehindNeeds needs order = (front rest : List ℕ) (u v : ℕ) → order ≡ front ++ u ∷ rest → Needs needs u v → Contains front v

-- the order has each node
abbrev pub HasAll : List (List ℕ) → List ℕ → Type 0
HasAll needs order = (u : ℕ) → u < length needs → Contains order u
