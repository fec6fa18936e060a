-- The trail of an assignment: its choices in the order in which demands open their variables.
use Rattle.std.specs.Prelude.{◌≡◌, ◌≢◌, ℕ, zero, suc, Bool, cond, ◌&&◌, List, [], ◌∷◌, ◌++◌, Option, Some, None, is_none, filter, map, flat_map, nat_eq, AllPairs}
use Rattle.qualified_goals.specs.declared.variable.Var.{Var}
use Rattle.choice_problem.specs.declared.problem.Choice.{Choice}
use Rattle.qualified_goals.specs.Variable.{same_var}
use Rattle.choice_problem.specs.Assignment.{Assignment}
use Rattle.choice_problem.specs.Problem.{ProblemOf}
use Rattle.indexmap.specs.IndexMap.{IndexMap}
use Rattle.keyed_lists.specs.Lists.{all_but_last, items_at}
use Rattle.choice_problem.specs.Table.{entry}
use Rattle.choice_problem.specs.Twins.{is_of_package}
use Rattle.choice_problem.specs.General.{Request, General}
use Rattle.choice_problem.specs.ConflictSet.{first_of, set_of}

-- the choices of a trail as an assignment
abbrev pub value_in : List Choice → Assignment
value_in [] v = None
value_in (c ∷ trail) v = cond (same_var c.var v) (Some c.val) (value_in trail v)

-- each choice is of a variable that has no value under the choices before it
pub data AreNew : List Choice → Type 0 where
  before_any : AreNew []
  one_more : {before : List Choice} {all : List Choice} → AreNew before → (c : Choice) → value_in before c.var ≡ None → all ≡ before ++ c ∷ [] → AreNew all

-- no two of the choices are of one variable
abbrev pub AreOfDifferentVars : List Choice → Type 0
AreOfDifferentVars choices = AllPairs (λ c d. c.var ≢ d.var) choices

-- a trail's invariant: no variable twice; one table has the values, the other the choices of each package's instances
pub record IsTrail {S : Type 0} (choices : List Choice) (table : List (Var × ℕ)) (instances : IndexMap ℕ (List Choice) S) : Type 0 where
  pub new : AreNew choices
  pub values : (v : Var) → entry table v ≡ value_in choices v
  pub instances_are : (n : ℕ) → items_at nat_eq instances n ≡ filter (is_of_package n) choices

-- the instances of a package with one more, where the choice is one of them
abbrev pub with_instance : Choice → ℕ → List Choice → List Choice
with_instance c n instances = instances ++ filter (is_of_package n) (c ∷ [])

-- the instances without the last one, where the choice is of this package
abbrev pub without_instance : Choice → ℕ → List Choice → List Choice
without_instance c n instances = cond (is_of_package n c) (all_but_last instances) instances

-- the demands so far: the roots, and those that the choices own
abbrev pub demands_after : {D : Type 0} → ProblemOf D → List Choice → List D
demands_after p trail = p.roots ++ flat_map p.demands trail

-- whether a demand is Yes under the choices so far, and its target isn't chosen yet
abbrev pub opens : List Choice → Request → Bool
opens trail r = r.is_yes (value_in trail) && is_none (value_in trail r.target)

-- the open variables, in goal order: the targets of demands that are Yes under the choices so far, which aren't chosen yet
unfoldable pub open_vars : General → List Choice → List Var
open_vars g trail = set_of (map (λ r. r.target) (filter (opens trail) (demands_after g trail)))

-- the least of them
abbrev pub next_var : General → List Choice → Option Var
next_var g trail = first_of (open_vars g trail)

-- a variable with a value
abbrev pub choice_of : Var → ℕ → Choice
choice_of v n = record { var = v; val = n }

-- some applied to the variable, or none
abbrev pub with_next : {X : Type 0} → Option Var → X → (Var → X) → X
with_next None none some = none
with_next (Some v) none some = some v

-- some applied to the value, or none
abbrev pub with_value : {X : Type 0} → Option ℕ → X → (ℕ → X) → X
with_value None none some = none
with_value (Some n) none some = some n

-- a trail, followed by the choices that A makes for the next open variables, at most fuel many
abbrev pub trail_from : ℕ → General → Assignment → List Choice → List Choice
trail_from zero g A trail = trail
trail_from (suc fuel) g A trail =
    with_next (next_var g trail) trail (λ v. with_value (A v) trail (λ n. trail_from fuel g A (trail ++ choice_of v n ∷ [])))

-- no trail is longer than the number of known variables
abbrev pub trail_of : General → Assignment → List Choice
trail_of g A = trail_from g.bound g A []
