-- The active demands after some choices, in order, and the variables that they open.
use Rattle.std.specs.Prelude.{Bool, not, ◌&&◌, List, [], ◌∷◌, ◌++◌, Option, Some, None, is_none, filter, find, map}
use Rattle.qualified_goals.specs.declared.variable.Var.{Var}
use Rattle.choice_problem.specs.declared.problem.Choice.{Choice}
use Rattle.choice_problem.specs.declared.problem.Demand.{Demand}
use Rattle.qualified_goals.specs.Variable.{same_var}
use Rattle.choice_problem.specs.Assignment.{is_yes}
use Rattle.choice_problem.specs.Problem.{Problem}
use Rattle.choice_problem.specs.General.{general}
use Rattle.choice_problem.specs.Trail.{value_in, demands_after, open_vars, next_var}
use Rattle.choice_problem.specs.ConflictSet.{has, first_behind, set_of}

-- the demand is Yes with the choice, and wasn't before it
abbrev pub turns_yes : List Choice → Choice → Demand → Bool
turns_yes trail c d = is_yes (value_in (trail ++ c ∷ [])) d && not (is_yes (value_in trail) d)

-- the demands that a choice makes active: by their owners' places on the trail, and then in each owner's order
unfoldable pub made_active : Problem → List Choice → Choice → List Demand
made_active p trail c = filter (turns_yes trail c) (demands_after p (trail ++ c ∷ []))

-- the demands that the choices make active one after another, with some choices before them
abbrev pub active_from : Problem → List Choice → List Choice → List Demand
active_from p before [] = []
active_from p before (c ∷ rest) = made_active p before c ++ active_from p (before ++ c ∷ []) rest

-- the roots, and then the others by the choice that made them active
unfoldable pub active : Problem → List Choice → List Demand
active p trail = p.roots ++ active_from p [] trail

-- whether a demand's target isn't chosen yet
abbrev pub is_waited_for : List Choice → Demand → Bool
is_waited_for trail d = is_none (value_in trail d.target)

-- the open variables of a problem that is searched, in goal order
abbrev pub open_in : Problem → List Choice → List Var
open_in p trail = open_vars (general p) trail

-- whether a variable is open
abbrev pub is_open : Problem → List Choice → Var → Bool
is_open p trail v = has (open_in p trail) v

-- the least open variable
abbrev pub least_open : Problem → List Choice → Option Var
least_open p trail = next_var (general p) trail

-- the least open variable behind one, or of all
abbrev pub open_after : Problem → List Choice → Option Var → Option Var
open_after p trail v = first_behind v (open_in p trail)

-- the targets of active demands that aren't chosen yet, in goal order
abbrev pub waiting : List Choice → List Demand → List Var
waiting trail demands = set_of (map (λ d. d.target) (filter (is_waited_for trail) demands))

-- the variables of a condition
abbrev pub vars_of : List Choice → List Var
vars_of when = map (λ c. c.var) when

-- whether a demand is on a variable
abbrev pub asks_for : Var → Demand → Bool
asks_for v d = same_var d.target v

-- the variables of the condition of a demand, where there is one
abbrev pub vars_of_first : Option Demand → List Var
vars_of_first None = []
vars_of_first (Some d) = vars_of d.when

-- why a variable is open: the condition of the first demand on it that became active
unfoldable pub reason : Problem → List Choice → Var → List Var
reason p trail v = vars_of_first (find (asks_for v) (active p trail))
