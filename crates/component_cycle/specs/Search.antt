-- The invariant of the search.
use Rattle.std.specs.Prelude.{◌≡◌, ◌≢◌, ◌↔◌, ◌⊎◌, ℕ, ◌+◌, ◌<◌, ◌≤◌, Bool, true, false, List, [], ◌∷◌, ◌++◌, length, Option, Some, None, IsTrue, Contains, slice_index, slice_index_or, slice_set}
use Rattle.std.specs.List.{AllPairs}
use Rattle.component_cycle.specs.declared.search.NodeState.{NodeState}
use Rattle.component_cycle.specs.declared.search.NodeState.TheVariants.{Unseen, OnPath, Finished}
use Rattle.component_cycle.specs.declared.search.GroupStart.{GroupStart}
use Rattle.component_cycle.specs.declared.search.Search.{Search}
use Rattle.component_cycle.specs.Cycle.{IsOnCycle}
use Rattle.common_laws.specs.Graphs.{Needs, IsPath}

-- the state of a node
abbrev pub state : Search → ℕ → NodeState
state s v = slice_index_or s.states v Unseen

-- the node at a place of the path
abbrev pub at : Search → ℕ → ℕ
at s i = slice_index s.path i

-- the last mark
abbrev pub IsLast : List GroupStart → GroupStart → Type 0
IsLast marks m = (front : List GroupStart) × (marks ≡ front ++ m ∷ [])

-- there is a last mark, with this property
abbrev pub HasLast : List GroupStart → (GroupStart → Type 0) → Type 0
HasLast marks P = (m : GroupStart) × IsLast marks m × P m

-- place j isn't before the group of place i
abbrev pub IsNotBefore : Search → ℕ → ℕ → Type 0
IsNotBefore s i j = (m : GroupStart) → Contains s.marks m → m.place ≤ i → m.place ≤ j

-- v is u, or is reachable from u
abbrev pub Reaches : List (List ℕ) → ℕ → ℕ → Type 0
Reaches needs u v = (u ≡ v) ⊎ IsPath (Needs needs) u v

-- a target v of the node at place i is settled, is on the path no earlier than the group of i, waits, or is the target
-- of the current edge
pub data IsKnown (s : Search) (loose : Option ℕ) (i v : ℕ) : Type 0 where
  settled : (b : Bool) → state s v ≡ Finished b → IsKnown s loose i v
  on_path : (p : ℕ) → state s v ≡ OnPath p → IsNotBefore s i p → IsKnown s loose i v
  waits : (l : ℕ) → l < length s.waiting → slice_index s.waiting l ≡ v → ((m : GroupStart) → Contains s.marks m → m.place ≤ i → m.waiting ≤ l) → IsKnown s loose i v
  looked_at : loose ≡ Some v → IsKnown s loose i v

-- a waiting target has an edge from a node of the same group
pub record HasSource (needs : List (List ℕ)) (s : Search) (l : ℕ) : Type 0 where
  pub place : ℕ
  pub within : place < length s.path
  pub edge : Needs needs (at s place) (slice_index s.waiting l)
  pub same_group : (m : GroupStart) → Contains s.marks m → (m.place ≤ place ↔ m.waiting ≤ l)

-- a settled node lies on a cycle iff its state is `Settled(true)`
pub record IsRight (needs : List (List ℕ)) (u : ℕ) (b : Bool) : Type 0 where
  pub cycle : b ≡ true → IsOnCycle needs u
  pub none : b ≡ false → IsOnCycle needs u → ⊥

-- a mark is before another
abbrev pub IsBelow : GroupStart → GroupStart → Type 0
IsBelow m n = (m.place < n.place) × (m.waiting ≤ n.waiting)

-- the invariant: of settled nodes, of the path and its groups, and of waiting targets
pub record IsSound (needs : List (List ℕ)) (s : Search) (loose : Option ℕ) : Type 0 where
  pub count : length s.states ≡ length needs
  pub placed : (u i : ℕ) → state s u ≡ OnPath i → (i < length s.path) × (at s i ≡ u)
  pub standing : (i : ℕ) → i < length s.path → state s (at s i) ≡ OnPath i
  pub closed : (u v : ℕ) (b : Bool) → state s u ≡ Finished b → Needs needs u v → (d : Bool) × (state s v ≡ Finished d)
  pub right : (u : ℕ) (b : Bool) → state s u ≡ Finished b → IsRight needs u b
  pub marked : (m : GroupStart) → Contains s.marks m → (m.place < length s.path) × (m.waiting ≤ length s.waiting)
  pub rising : AllPairs IsBelow s.marks
  pub covered : (i : ℕ) → i < length s.path → (m : GroupStart) × Contains s.marks m × (m.place ≤ i)
  pub forward : (i j : ℕ) → i ≤ j → j < length s.path → Reaches needs (at s i) (at s j)
  pub back : (i j : ℕ) → i ≤ j → j < length s.path → IsNotBefore s j i → Reaches needs (at s j) (at s i)
  pub known : (i v : ℕ) → i < length s.path → Needs needs (at s i) v → IsKnown s loose i v
  pub source : (l : ℕ) → l < length s.waiting → HasSource needs s l

-- a path leads from each node of the path to v
abbrev pub AllReach : List (List ℕ) → Search → ℕ → Type 0
AllReach needs s v = (i : ℕ) → i < length s.path → IsPath (Needs needs) (at s i) v

-- v is appended to the path as a group of its own, and its targets wait
abbrev pub entered : List (List ℕ) → ℕ → Search → Search
entered needs v s =
    record {
      states = slice_set s.states v (OnPath (length s.path));
      path = s.path ++ v ∷ [];
      waiting = s.waiting ++ slice_index_or needs v [];
      marks = s.marks ++ record { place = length s.path; waiting = length s.waiting } ∷ [];
    }

-- these nodes are settled
abbrev pub AreFinished : List ℕ → Bool → List NodeState → Type 0
AreFinished nodes on_cycle states = (i : ℕ) → i < length nodes → slice_index_or states (slice_index nodes i) Unseen ≡ Finished on_cycle

-- the state of no other node changes
abbrev pub OthersStay : List ℕ → List NodeState → List NodeState → Type 0
OthersStay nodes old new = (v : ℕ) → (Contains nodes v → ⊥) → slice_index_or new v Unseen ≡ slice_index_or old v Unseen

-- the remaining work for a node in this state
abbrev pub cost : List ℕ → NodeState → ℕ
cost ns Unseen = length ns + 2
cost ns (OnPath i) = 0
cost ns (Finished b) = 0

-- the remaining work for all nodes
abbrev pub costs : List (List ℕ) → List NodeState → ℕ
costs [] states = 0
costs (ns ∷ needs) [] = 0
costs (ns ∷ needs) (x ∷ states) = cost ns x + costs needs states

-- the measure of the search: the remaining work
abbrev pub to_do : List (List ℕ) → Search → ℕ
to_do needs s = costs needs s.states + length s.waiting + length s.marks

-- a later state of the search, with a bound on the remaining work
pub record GoesOn (needs : List (List ℕ)) (s t : Search) (bound : ℕ) : Type 0 where
  pub sound : IsSound needs t None
  pub seen : (v : ℕ) → state s v ≢ Unseen → state t v ≢ Unseen
  pub less : to_do needs t < bound

-- a later state of the search, with less remaining work
abbrev pub Lowers : List (List ℕ) → Search → Search → Type 0
Lowers needs s t = GoesOn needs s t (to_do needs s)

-- a later state of the search, with no more remaining work
abbrev pub DoesNotRaise : List (List ℕ) → Search → Search → Type 0
DoesNotRaise needs s t = GoesOn needs s t (to_do needs s + 1)

-- whether a node is settled and lies on a cycle
abbrev pub is_on_cycle : NodeState → Bool
is_on_cycle Unseen = false
is_on_cycle (OnPath i) = false
is_on_cycle (Finished b) = b

-- whether the nodes of a component lie on cycles
pub record IsCyclic (needs : List (List ℕ)) (group : List ℕ) (b : Bool) : Type 0 where
  pub several : 2 ≤ length group → b ≡ true
  pub alone : length group ≡ 1 → (IsTrue b ↔ Needs needs (slice_index group 0) (slice_index group 0))

-- if these nodes were seen before, the remaining work is the same
abbrev pub SeenCostNothing : List ℕ → List NodeState → List NodeState → Type 0
SeenCostNothing nodes old new = (needs : List (List ℕ)) → length old ≡ length needs
    → ((i : ℕ) → i < length nodes → slice_index_or old (slice_index nodes i) Unseen ≢ Unseen) → costs needs new ≡ costs needs old
