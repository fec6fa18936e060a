-- The stack that a choice would make.
use Rattle.std.specs.Prelude.{◌≡◌, ℕ, ◌+◌, true, cond, List, [], ◌∷◌, ◌++◌, length, drop, filter, find, Option, None}
use Rattle.std.specs.List.{Contains}
use Rattle.qualified_goals.specs.declared.variable.Var.{Var}
use Rattle.choice_problem.specs.declared.problem.Choice.{Choice}
use Rattle.choice_problem.specs.declared.problem.Demand.{Demand}
use Rattle.choice_problem.specs.Active.{asks_for}
use Rattle.choice_problem.specs.Conflict.{is_broken}
use Rattle.choice_problem.specs.Trail.{value_in}
use Rattle.choice_problem.specs.Twins.{is_of_package, is_whole}
use Rattle.choice_stack.specs.declared.addition.Addition.{Addition}
use Rattle.validation.specs.View.{View}
use Rattle.choice_stack.specs.Stack.{IsSettled, is_owned_by, last_number, turned}

-- the variable owns each of the demands
abbrev pub AreOwned : Var → List Demand → Type 0
AreOwned v demands = (d : Demand) → Contains demands d → is_owned_by v d ≡ true

-- the number of demands active before the last choice
abbrev pub count_before : View → ℕ
count_before s = last_number s.active_before

-- the first demand that became active with the last choice and is broken
abbrev pub first_broken : View → Option Demand
first_broken s = find (is_broken s.trail) (drop (count_before s) s.active)

-- a choice may be made; woken are the listed demands that become Yes with it, fresh its own ones; count are active then
pub record ArePending (s : View) (a : Addition) (woken fresh : List Demand) (count : ℕ) : Type 0 where
  pub free : value_in s.trail a.choice.var ≡ None
  pub settled : IsSettled s
  pub owned : AreOwned a.choice.var a.demands
  pub woken_is : woken ≡ turned (s.trail ++ a.choice ∷ []) a.choice.var s.listed
  pub fresh_is : fresh ≡ turned (s.trail ++ a.choice ∷ []) a.choice.var a.demands
  pub counted : count ≡ length s.active + (length woken + length fresh)

-- the variable is a package's instance, and none of that package is chosen
abbrev pub IsFirstInstance : List Choice → Var → Type 0
IsFirstInstance trail v = (is_whole v.part ≡ true) × (filter (is_of_package v.«package») trail ≡ [])

-- the place of the demand, if it is on the variable
abbrev pub place_if : ℕ → Var → Demand → List ℕ
place_if place v d = cond (asks_for v d) (place ∷ []) []
