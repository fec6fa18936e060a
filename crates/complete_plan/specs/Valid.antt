-- Complete, valid assignments over a sound index.
use Rattle.std.specs.Prelude.{ℕ, List}
use Rattle.plan_types.specs.declared.condition.Env.{Env}
use Rattle.plan_types.specs.declared.index.Index.{Index}
use Rattle.plan_types.specs.declared.project.Project.{Project}
use Rattle.flatten.specs.Sound.{IsSound}
use Rattle.qualified_goals.specs.Names.{AreNumbers, NameTable}
use Rattle.choice_problem.specs.Assignment.{Assignment}
use Rattle.choice_problem.specs.General.{General}
use Rattle.choice_problem.specs.Valid.{IsWholeValid}
use Rattle.solver_index.specs.Orders.{AreOrders}
use Rattle.cabal_problem.specs.WholeDemands.{whole_problem}
use Rattle.package_index.specs.Extra.{AreThere}
use Rattle.plan_components.specs.Chosen.{Selection, selection_from}

-- a complete, valid assignment over a sound index that has each extra package
pub record ValidAssignment : Type 0 where
  pub env : Env
  pub index : Index
  pub project : Project
  pub names : NameTable
  pub orders : List (List ℕ)
  pub assignment : Assignment
  pub sound : IsSound env index
  pub numbers : AreNumbers index.packages names
  pub orders_are : AreOrders project index.packages orders
  pub there : AreThere project.extra index
  pub whole_valid : IsWholeValid (whole_problem env index.packages project names orders) assignment

-- its problem
abbrev pub problem : ValidAssignment → General
problem v = whole_problem v.env v.index.packages v.project v.names v.orders

-- what it selects
abbrev pub selected : ValidAssignment → Selection
selected v = selection_from v.index v.names v.env v.assignment
