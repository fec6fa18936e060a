-- The cycles through one variable, by the variables that it leads to and those that lead to it.
use Rattle.std.specs.Prelude.{◌≡◌, Bool, true, false, ◌&&◌, List, [], ◌∷◌, Option, Some, None}
use Rattle.std.specs.List.{Contains, list_any}
use Rattle.qualified_goals.specs.declared.variable.Var.{Var}
use Rattle.choice_problem.specs.declared.problem.Demand.{Demand}
use Rattle.choice_problem.specs.ConflictSet.{has}
use Rattle.choice_problem.specs.Conflict.{Edge, edges_of, lies_on_cycle}
use Rattle.demand_cycles.specs.declared.ring.Ring.{Ring}
use Rattle.demand_cycles.specs.Cycles.{AreAncestors, owner_of}
use Rattle.demand_cycles.specs.Side.{reversed}

-- whether an edge lies on a cycle through the variable
abbrev pub closes : Ring → Var → Var → Bool
closes ring v w = has ring.ahead v && has ring.back w

-- the same for any of several rings
abbrev pub any_closes : List Ring → Var → Var → Bool
any_closes rings v w = list_any (λ ring. closes ring v w) rings

-- the same for the edge of a demand with this owner; a root has no edge
abbrev pub closes_from : List Ring → Option Var → Var → Bool
closes_from rings None target = false
closes_from rings (Some owner) target = any_closes rings owner target

-- the ring has the variables that v leads to, and those that lead to v
pub record IsRingOf (edges : List Edge) (v : Var) (ring : Ring) : Type 0 where
  pub ahead : AreAncestors (reversed edges) (v ∷ []) ring.ahead
  pub back : AreAncestors edges (v ∷ []) ring.back

-- each is the ring of a variable, and each of vars lies on a cycle of one
pub record AreRings (edges : List Edge) (vars : List Var) (rings : List Ring) : Type 0 where
  pub each : (ring : Ring) → Contains rings ring → (v : Var) × IsRingOf edges v ring
  pub all : (v : Var) → Contains vars v → any_closes rings v v ≡ true

-- a demand lies on a cycle iff a ring closes its edge
abbrev pub Tells : List Demand → List Ring → Type 0
Tells demands rings = (d : Demand) → Contains demands d → closes_from rings (owner_of d) d.target ≡ lies_on_cycle (edges_of demands) d
