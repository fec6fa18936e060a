-- The nodes that reach a marked node, in a graph that is given by adjacency lists.
use Rattle.std.specs.Prelude.{◌≡◌, ◌<◌, ◌↔◌, ◌⊎◌, ℕ, Bool, List, [], length, Contains, slice_index_or}
use Rattle.common_laws.specs.Graphs.{Needs, IsMarked}

-- a node is marked, or a path leads from it to a marked node
pub data ReachesMarked (needs : List (List ℕ)) (marked : List Bool) : ℕ → Type 0 where
  here : {u : ℕ} → IsMarked marked u → ReachesMarked needs marked u
  over : {u : ℕ} (v : ℕ) → Needs needs u v → ReachesMarked needs marked v → ReachesMarked needs marked u

-- u is among the users of v
abbrev pub IsUser : List (List ℕ) → ℕ → ℕ → Type 0
IsUser users u v = Contains (slice_index_or users v []) u

-- the users are the reversed edges of the graph
abbrev pub AreUsers : List (List ℕ) → List (List ℕ) → Type 0
AreUsers needs users = (length users ≡ length needs) × ((u v : ℕ) → IsUser users u v ↔ Needs needs u v × (v < length needs))

-- one user is added to all nodes with this property
abbrev pub AddsUser : ℕ → (ℕ → Type 0) → List (List ℕ) → List (List ℕ) → Type 0
AddsUser user Of old new = (u v : ℕ) → IsUser new u v ↔ IsUser old u v ⊎ ((u ≡ user) × Of v × (v < length old))

-- all nodes with this property are marked too
abbrev pub MarksMore : (ℕ → Type 0) → List Bool → List Bool → Type 0
MarksMore Of old new = (i : ℕ) → IsMarked new i ↔ IsMarked old i ⊎ (Of i × (i < length old))

-- the newly marked nodes wait too
abbrev pub NewlyMarkedWait : List Bool → List Bool → List ℕ → List ℕ → Type 0
NewlyMarkedWait old_led new_led old new = (i : ℕ) → Contains new i ↔ Contains old i ⊎ (IsMarked new_led i × (IsMarked old_led i → ⊥))
