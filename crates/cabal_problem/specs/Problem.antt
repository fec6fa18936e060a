-- The problem of an index and a project.
use Rattle.std.specs.Prelude.{◌≡◌, ℕ, Bool, List}
use Rattle.plan_types.specs.declared.index.Index.{Index}
use Rattle.plan_types.specs.declared.index.Package.{Package}
use Rattle.plan_types.specs.declared.project.Project.{Project}
use Rattle.qualified_goals.specs.declared.variable.Part.{Part}
use Rattle.qualified_goals.specs.declared.variable.Part.TheVariants.{Package as ThePackage, Flag, Tests, Benches}
use Rattle.qualified_goals.specs.Names.{NameTable, AreInGoalOrder, AreNumbers}
use Rattle.choice_problem.specs.declared.problem.Choice.{Choice}
use Rattle.choice_problem.specs.Problem.{Problem}
use Rattle.constraint_set.specs.Bars.{bars, bars_part}
use Rattle.solver_index.specs.Places.{entry_at}
use Rattle.cabal_problem.specs.Variables.{is_known, domain_of, is_on}
use Rattle.cabal_problem.specs.Values.{order_of}
use Rattle.cabal_problem.specs.ListedDemands.{roots_of, demands_of}
use Rattle.solver_index.specs.Orders.{AreOrders}
use Rattle.cabal_problem.specs.Bound.{bound_of}
use Rattle.plan_types.specs.Packages.{entries_of}

-- whether a choice is barred: an instance of a package, or a value of a flag or a stanza
abbrev pub barred_part : List Package → Project → NameTable → Choice → Part → Bool
barred_part packages project names c ThePackage = bars project names c.var (entry_at (entries_of packages c.var.«package») c.val).instance
barred_part packages project names c (Flag f) = bars_part project names c.var (is_on c.val)
barred_part packages project names c Tests = bars_part project names c.var (is_on c.val)
barred_part packages project names c Benches = bars_part project names c.var (is_on c.val)

-- the problem with these orders of the instances of each package, the best first
abbrev pub problem_of : List Package → Project → NameTable → List (List ℕ) → Problem
problem_of packages project names orders = record {
  bound = bound_of packages names;
  known = is_known packages names;
  domain = λ v. domain_of packages v.«package» v.part;
  roots = roots_of packages project names;
  order = λ v trail. order_of packages names orders v.qual v.«package» v.part trail;
  barred = λ c. barred_part packages project names c c.var.part;
  demands = demands_of packages project names;
}

-- the problem of an index in goal order and of a project, by the numbers of the index's names
pub record IsProblemOf (index : Index) (project : Project) (names : NameTable) (p : Problem) : Type 0 where
  pub in_goal_order : AreInGoalOrder index.packages
  pub numbers : AreNumbers index.packages names
  pub orders : List (List ℕ)
  pub orders_are : AreOrders project index.packages orders
  pub problem_is : p ≡ problem_of index.packages project names orders
