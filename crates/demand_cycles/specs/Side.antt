-- Searches along edges and against them, and the keys of a search.
use Rattle.std.specs.Prelude.{◌≡◌, ℕ, ◌≤◌, Bool, true, not, ◌&&◌, nat_lt, List, [], ◌∷◌, length, take, map}
use Rattle.qualified_goals.specs.declared.variable.Var.{Var}
use Rattle.choice_problem.specs.ConflictSet.{has}
use Rattle.choice_problem.specs.Conflict.{Edge}
use Rattle.demand_cycles.specs.declared.side.Side.{Side}
use Rattle.demand_cycles.specs.Cycles.{HasEdge, leads_to_any}

-- no key is repeated
abbrev pub are_once : List Var → Bool
are_once [] = true
are_once (v ∷ keys) = not (has keys v) && are_once keys

-- keys lead to goals, goals are keys, and so are the starts of edges to the keys before a place; no key is repeated
pub record IsPartReached (edges : List Edge) (goals keys : List Var) (place : ℕ) : Type 0 where
  pub within : place ≤ length keys
  pub once : are_once keys ≡ true
  pub sound : (v : Var) → has keys v ≡ true → leads_to_any edges goals v ≡ true
  pub begun : (v : Var) → has goals v ≡ true → has keys v ≡ true
  pub closed : (w u : Var) → has (take place keys) w ≡ true → HasEdge edges u w → has keys u ≡ true

-- a reversed edge
abbrev pub reversed_edge : Edge → Edge
reversed_edge e = record { from = e.to; to = e.from }

-- reversed edges: by them, what leads to a variable is what it leads to
abbrev pub reversed : List Edge → List Edge
reversed edges = map reversed_edge edges

-- a search against the edges, from one goal
abbrev pub IsSide : List Edge → Side → Type 0
IsSide edges side = IsPartReached edges (side.end ∷ []) side.found side.place

-- the search isn't finished, and hasn't found the variable
abbrev pub is_seeking : Side → Var → Bool
is_seeking side v = nat_lt side.place (length side.found) && not (has side.found v)

-- neither of two searches is finished or has found the other's end
abbrev pub are_apart : Side → Side → Bool
are_apart ahead back = is_seeking ahead back.end && is_seeking back ahead.end
