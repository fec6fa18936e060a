-- Edges, and the variables from which they lead to goals.
use Rattle.std.specs.Prelude.{◌≡◌, Bool, List, ◌∷◌, [], Option, Some, None, option_to_list, length, filter, flat_map}
use Rattle.std.specs.List.{Contains, list_any}
use Rattle.qualified_goals.specs.declared.variable.Var.{Var}
use Rattle.choice_problem.specs.declared.problem.Choice.{Choice}
use Rattle.choice_problem.specs.declared.problem.Demand.{Demand}
use Rattle.choice_problem.specs.ConflictSet.{has}
use Rattle.choice_problem.specs.Conflict.{Edge, leads, lies_on_cycle}

-- an edge leaves the first variable for the second
abbrev pub HasEdge : List Edge → Var → Var → Type 0
HasEdge edges v w = (e : Edge) × Contains edges e × (e.from ≡ v) × (e.to ≡ w)

-- whether edges lead from a variable to one of the goals
abbrev pub leads_to_any : List Edge → List Var → Var → Bool
leads_to_any edges goals v = list_any (λ w. leads (length edges) edges v w) goals

-- the variable of the first choice of a condition
abbrev pub first_of_condition : List Choice → Option Var
first_of_condition [] = None
first_of_condition (owner ∷ others) = Some owner.var

-- the variable of a demand's owner; a root has none
abbrev pub owner_of : Demand → Option Var
owner_of d = first_of_condition d.when

-- the variables of the owners of the demands whose edges lie on a cycle
abbrev pub owners_on_cycles : List Edge → List Demand → List Var
owners_on_cycles edges demands = flat_map (λ d. option_to_list (owner_of d)) (filter (lies_on_cycle edges) demands)

-- the keys are the variables that lead to one of the goals
abbrev pub AreAncestors : List Edge → List Var → List Var → Type 0
AreAncestors edges goals keys = (v : Var) → has keys v ≡ leads_to_any edges goals v
