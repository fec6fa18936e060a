-- The invariant of a build order under construction.
use Rattle.std.specs.Prelude.{◌≡◌, ◌<◌, ◌≤◌, ◌↔◌, ◌⊎◌, ℕ, Bool, List, [], ◌∷◌, ◌++◌, length, Contains, Option, MatchOption, slice_index, slice_index_or, slice_set}
use Rattle.build_order.specs.declared.building.Wait.{Wait}
use Rattle.build_order.specs.declared.building.Building.{Building}
use Rattle.build_order.specs.Order.{IsReady, IsLeastReady}
use Rattle.common_laws.specs.Graphs.{IsMarked}

-- the needs from a place up to another are marked
abbrev pub AreMet : List ℕ → List Bool → ℕ → ℕ → Type 0
AreMet list marks from to = (k : ℕ) → from ≤ k → k < to → IsMarked marks (slice_index list k)

-- the first unmarked need from a place on is the one at this place
pub record IsFirstUnmet (list : List ℕ) (marks : List Bool) (from place : ℕ) : Type 0 where
  pub from_here : from ≤ place
  pub within : place < length list
  pub unmet : IsMarked marks (slice_index list place) → ⊥
  pub met : AreMet list marks from place

-- u is the least of some nodes, and is taken out
pub record IsTakenAsLeast (old new : List ℕ) (u : ℕ) : Type 0 where
  pub member : Contains old u
  pub gone : Contains new u → ⊥
  pub least : (v : ℕ) → Contains old v → u ≤ v
  pub stays : (v : ℕ) → Contains old v → (v ≡ u) ⊎ Contains new v
  pub was : (v : ℕ) → Contains new v → Contains old v

-- the least of some nodes is taken out, if there is one
abbrev pub TakesLeast : List ℕ → List ℕ → Option ℕ → Type 0
TakesLeast old new taken = MatchOption taken ((u : ℕ) → Contains old u → ⊥) (IsTakenAsLeast old new)

-- the needs of a node
abbrev pub needs_of : List (List ℕ) → ℕ → List ℕ
needs_of needs u = slice_index_or needs u []

-- the waits for each node, with one more for v
abbrev pub with_wait : ℕ → Wait → List (List Wait) → List (List Wait)
with_wait v w waiting = slice_set waiting v (slice_index_or waiting v [] ++ w ∷ [])

-- a node becomes ready: its needs from a place on are all placed
pub record BecomesReady (needs : List (List ℕ)) (node from : ℕ) (old new : Building) : Type 0 where
  pub met : AreMet (needs_of needs node) old.placed from (length (needs_of needs node))
  pub ready : (u : ℕ) → Contains new.ready.keys u ↔ Contains old.ready.keys u ⊎ (u ≡ node)
  pub waiting : new.waiting.items ≡ old.waiting.items

-- a node waits for the first of its needs from a place on that isn't placed
pub record HasToWait (needs : List (List ℕ)) (node from : ℕ) (old new : Building) : Type 0 where
  pub place : ℕ
  pub unmet : IsFirstUnmet (needs_of needs node) old.placed from place
  pub ready : new.ready.keys ≡ old.ready.keys
  pub waiting : new.waiting.items
      ≡ with_wait (slice_index (needs_of needs node) place) (record { node = node; place = place }) old.waiting.items

-- a node becomes ready, or has to wait
abbrev pub WaitsOrIsReady : List (List ℕ) → ℕ → ℕ → Building → Building → Type 0
WaitsOrIsReady needs node from old new = BecomesReady needs node from old new ⊎ HasToWait needs node from old new

-- a node isn't placed, and all its needs before a place are
pub record IsMetBefore (needs : List (List ℕ)) (order : List ℕ) (node place : ℕ) : Type 0 where
  pub within : node < length needs
  pub unplaced : Contains order node → ⊥
  pub met : (k : ℕ) → k < place → k < length (needs_of needs node) → Contains order (slice_index (needs_of needs node) k)

-- a node waits for v, the first of its needs that isn't placed
pub record IsWait (needs : List (List ℕ)) (order : List ℕ) (v : ℕ) (w : Wait) : Type 0 where
  pub before : IsMetBefore needs order w.node w.place
  pub within : w.place < length (needs_of needs w.node)
  pub need : slice_index (needs_of needs w.node) w.place ≡ v
  pub unplaced : Contains order v → ⊥

-- a node waits for another
abbrev pub Waits : List (List Wait) → ℕ → Type 0
Waits waiting u = (v : ℕ) × (w : Wait) × Contains (slice_index_or waiting v []) w × (w.node ≡ u)

-- no node
abbrev pub NoNode : ℕ → Type 0
NoNode u = ⊥

-- this node alone
abbrev pub Alone : ℕ → ℕ → Type 0
Alone node u = u ≡ node

-- the order so far is right, the tables agree with it, and each unplaced node is ready, waits or is open
pub record Keeps (needs : List (List ℕ)) (IsOpen : ℕ → Type 0) (order : List ℕ) (marks : List Bool) (ready : List ℕ)
    (waiting : List (List Wait)) : Type 0 where
  pub count : length marks ≡ length needs
  pub tables : length waiting ≡ length needs
  pub each : (front rest : List ℕ) (u : ℕ) → order ≡ front ++ u ∷ rest → IsLeastReady needs front u
  pub placed : (u : ℕ) → IsMarked marks u ↔ Contains order u
  pub first : (u : ℕ) → Contains ready u → IsReady needs order u
  pub waits : (v : ℕ) (w : Wait) → Contains (slice_index_or waiting v []) w → IsWait needs order v w
  pub found : (u : ℕ) → u < length needs → (Contains order u → ⊥) → Contains ready u ⊎ Waits waiting u ⊎ IsOpen u

-- the invariant, of the order under construction
abbrev pub IsSound : List (List ℕ) → (ℕ → Type 0) → Building → Type 0
IsSound needs IsOpen b = Keeps needs IsOpen b.order b.placed b.ready.keys b.waiting.items
