-- The additions of a choice to a stack.
use Rattle.std.specs.Prelude.{◌≡◌, ℕ, List, [], ◌∷◌, ◌++◌, length}
use Rattle.choice_problem.specs.declared.problem.Choice.{Choice}
use Rattle.choice_problem.specs.declared.problem.Demand.{Demand}
use Rattle.choice_stack.specs.declared.addition.Addition.{Addition}
use Rattle.choice_stack.specs.View.{View}
use Rattle.choice_stack.specs.Stack.{AllBelow, demands_at, turned}

-- the demands at the places are those that become Yes with a choice
pub record TurnWith (trail : List Choice) (c : Choice) (demands : List Demand) (places : List ℕ) : Type 0 where
  pub within : AllBelow (length demands) places
  pub turned_is : demands_at demands places ≡ turned (trail ++ c ∷ []) c.var demands

-- the places of the listed demands, and of the choice's own, that become Yes with it
pub record IsAddition (s : View) (a : Addition) : Type 0 where
  pub woken : TurnWith s.trail a.choice s.listed a.woken.items
  pub fresh : TurnWith s.trail a.choice a.demands a.fresh.items
