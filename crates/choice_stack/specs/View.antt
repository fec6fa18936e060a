-- A stack of choices as contracts see it.
use Rattle.std.specs.Prelude.{ℕ, List}
use Rattle.choice_problem.specs.declared.problem.Choice.{Choice}
use Rattle.choice_problem.specs.declared.problem.Demand.{Demand}

-- the choices, with their listed and active demands
pub record View : Type 0 where
  -- the choices, in the order in which they were made
  pub trail : List Choice
  -- the roots, and the demands that the choices own
  pub listed : List Demand
  -- the active demands, in the order in which they became active
  pub active : List Demand
  -- for each choice, the number of demands listed before it, and of demands active before it
  pub listed_before : List ℕ
  pub active_before : List ℕ
