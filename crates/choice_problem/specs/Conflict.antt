-- The conflict of one choice of an open variable: the set of the first rule that it breaks.
use Rattle.std.specs.Prelude.{ℕ, zero, suc, Bool, cond, not, ◌&&◌, ◌||◌, List, [], ◌∷◌, ◌++◌, length, Option, Some, None, is_some, filter, find, flat_map, map}
use Rattle.std.specs.List.{list_any}
use Rattle.qualified_goals.specs.declared.variable.Var.{Var}
use Rattle.choice_problem.specs.declared.problem.Choice.{Choice}
use Rattle.choice_problem.specs.declared.problem.Demand.{Demand}
use Rattle.qualified_goals.specs.Variable.{same_var}
use Rattle.choice_problem.specs.Assignment.{is_one_of, is_met}
use Rattle.choice_problem.specs.Problem.{Problem}
use Rattle.choice_problem.specs.General.{owner_of}
use Rattle.choice_problem.specs.Twins.{must_agree, differ}
use Rattle.choice_problem.specs.Trail.{value_in}
use Rattle.choice_problem.specs.Active.{made_active, active, vars_of}
use Rattle.choice_problem.specs.ConflictSet.{set_of}

-- the variables that a demand names: its target and those of its condition
abbrev pub named_by : Demand → List Var
named_by d = d.target ∷ vars_of d.when

-- the set of the variables that the demand names, if there is a demand
abbrev pub set_of_first : Option Demand → Option (List Var)
set_of_first None = None
set_of_first (Some d) = Some (set_of (named_by d))

-- 1. The value is barred.
abbrev pub barred_set : Problem → Choice → Option (List Var)
barred_set p c = cond (p.barred c) (Some (set_of (c.var ∷ []))) None

-- a demand is on the variable, and doesn't allow the value
abbrev pub refuses : Choice → Demand → Bool
refuses c d = same_var d.target c.var && not (is_one_of (Some c.val) d.allowed)

-- 2. A demand that is active already doesn't allow the value.
abbrev pub refused_set : Problem → List Choice → Choice → Option (List Var)
refused_set p trail c = set_of_first (find (refuses c) (active p trail))

-- a demand's target is chosen, and its value isn't allowed
abbrev pub is_broken : List Choice → Demand → Bool
is_broken trail d = is_some (value_in trail d.target) && not (is_met (value_in trail) d)

-- 3. A demand that becomes active doesn't allow the value that its target has.
abbrev pub broken_set : Problem → List Choice → Choice → Option (List Var)
broken_set p trail c = set_of_first (find (is_broken (trail ++ c ∷ [])) (made_active p trail c))

-- an edge from a demand's owner to its target
pub record Edge : Type 0 where
  pub from : Var
  pub to : Var

-- a root has no edge
abbrev pub edges_from : List Choice → Var → List Edge
edges_from [] target = []
edges_from (owner ∷ others) target = record { from = owner.var; to = target } ∷ []

-- the edge of a demand, unless it is a root
abbrev pub edges_by : Demand → List Edge
edges_by d = edges_from d.when d.target

-- the edges of demands
abbrev pub edges_of : List Demand → List Edge
edges_of demands = flat_map edges_by demands

-- whether at most n edges lead from v to w
abbrev pub leads : ℕ → List Edge → Var → Var → Bool
leads zero edges v w = same_var v w
leads (suc n) edges v w = same_var v w || list_any (λ e. same_var e.from v && leads n edges e.to w) edges

-- whether the edge of a demand lies on a cycle of these edges
abbrev pub lies_on_cycle : List Edge → Demand → Bool
lies_on_cycle edges d = list_any (λ e. leads (length edges) edges e.to e.from) (edges_by d)

-- the demands whose edges lie on a cycle
unfoldable pub circular : List Demand → List Demand
circular demands = filter (lies_on_cycle (edges_of demands)) demands

-- the set of the variables that the demands name, if there is a demand
abbrev pub set_of_all : List Demand → Option (List Var)
set_of_all [] = None
set_of_all (d ∷ demands) = Some (set_of (flat_map named_by (d ∷ demands)))

-- 4. Some active demands lie on a cycle.
abbrev pub cycle_set : List Demand → Option (List Var)
cycle_set demands = set_of_all (circular demands)

-- whether two demands must agree, and their targets have values that differ
abbrev pub disagree : List Choice → Demand × Demand → Bool
disagree trail (d, e) = must_agree (owner_of d.when) d.target (owner_of e.when) e.target && differ (value_in trail d.target) (value_in trail e.target)

-- the pairs whose later demand is in the second list: ordered by the later one, then by the earlier
abbrev pub pairs_behind : List Demand → List Demand → List (Demand × Demand)
pairs_behind before [] = []
pairs_behind before (d ∷ rest) = map (λ e. (e, d)) before ++ pairs_behind (before ++ d ∷ []) rest

-- the first pair that disagrees
unfoldable pub first_clash : List Choice → List Demand → Option (Demand × Demand)
first_clash trail demands = find (disagree trail) (pairs_behind [] demands)

-- the set of the variables that a pair of demands names, if there is a pair
abbrev pub set_of_pair : Option (Demand × Demand) → Option (List Var)
set_of_pair None = None
set_of_pair (Some (d, e)) = Some (set_of (named_by d ++ named_by e))

-- 5. Two active demands that must agree have targets with values that differ.
abbrev pub agreement_set : List Choice → List Demand → Option (List Var)
agreement_set trail demands = set_of_pair (first_clash trail demands)

-- the first set that isn't missing
abbrev pub first_set : List (Option (List Var)) → Option (List Var)
first_set [] = None
first_set (None ∷ sets) = first_set sets
first_set (Some set ∷ sets) = Some set

-- The sets of the rules on a value.
abbrev pub value_sets : Problem → List Choice → Choice → List (Option (List Var))
value_sets p trail c = barred_set p c ∷ refused_set p trail c ∷ broken_set p trail c ∷ []

-- The sets of the lasting rules: rules on choices and their active demands, whichever choice came last.
abbrev pub lasting_sets : List Choice → List Demand → List (Option (List Var))
lasting_sets trail demands = cycle_set demands ∷ agreement_set trail demands ∷ []

-- the set of the first lasting rule that is broken, if any is
abbrev pub lasting_set : List Choice → List Demand → Option (List Var)
lasting_set trail demands = first_set (lasting_sets trail demands)

-- the set of the first rule by which a choice conflicts, if any does
unfoldable pub conflict : Problem → List Choice → Choice → Option (List Var)
conflict p trail c = first_set (value_sets p trail c ++ lasting_sets (trail ++ c ∷ []) (active p (trail ++ c ∷ [])))
