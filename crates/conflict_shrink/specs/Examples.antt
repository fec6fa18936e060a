-- The definitions on a small problem, computed.
use Rattle.std.specs.Prelude.{◌≡◌, ℕ, List, [], ◌∷◌, refl}
use Rattle.plan_types.specs.declared.limit.Limit.TheVariants.{Unlimited, At}
use Rattle.qualified_goals.specs.declared.variable.Qual.TheVariants.{Top}
use Rattle.qualified_goals.specs.declared.variable.Part.TheVariants.{Package}
use Rattle.qualified_goals.specs.declared.variable.Var.{Var}
use Rattle.choice_problem.specs.declared.problem.Choice.{Choice}
use Rattle.choice_problem.specs.declared.problem.Demand.{Demand}
use Rattle.choice_problem.specs.declared.written.WrittenVar.{WrittenVar}
use Rattle.choice_problem.specs.Problem.{Problem}
use Rattle.choice_problem.specs.Active.{made_active, active, reason}
use Rattle.choice_problem.specs.Trail.{open_vars, choice_of}
use Rattle.choice_problem.specs.Conflict.{circular, first_clash, conflict}
use Rattle.choice_problem.specs.Answer.{guided_answer}
use Rattle.choice_problem.specs.Written.{problem_of}
use Rattle.conflict_shrink.specs.declared.shrinking.Shrunk.{Shrunk}
use Rattle.conflict_shrink.specs.Restricted.{restricted}
use Rattle.conflict_shrink.specs.Shrinking.{Tight, OverBudget, shrinking}

-- a package at top level
abbrev package_var : ℕ → Var
package_var n = record { qual = Top; «package» = n; part = Package }

abbrev choice : ℕ → ℕ → Choice
choice n m = choice_of (package_var n) m

abbrev values : ℕ → List ℕ → WrittenVar
values n order = record { var = package_var n; order = order; barred = [] }

abbrev asks : Choice → ℕ → List ℕ → Demand
asks owner n allowed = record { when = owner ∷ []; target = package_var n; allowed = allowed }

-- main, 0, demands 1, 2 and 3. 3 demands 2 and allows no value; 1 allows only the worse value of 2, which isn't needed.
abbrev main : Demand
main = record { when = []; target = package_var 0; allowed = 0 ∷ [] }

abbrev first : Demand
first = asks (choice 0 0) 1 (0 ∷ [])

abbrev second : Demand
second = asks (choice 0 0) 2 (0 ∷ 1 ∷ [])

abbrev third : Demand
third = asks (choice 0 0) 3 (0 ∷ [])

abbrev narrow : Problem
narrow = problem_of
    (values 0 (0 ∷ []) ∷ values 1 (0 ∷ []) ∷ values 2 (1 ∷ 0 ∷ []) ∷ values 3 (0 ∷ []) ∷ [])
    (main ∷ [])
    (first ∷ second ∷ third ∷ asks (choice 1 0) 2 (0 ∷ []) ∷ asks (choice 3 0) 2 [] ∷ [])

abbrev all : List Var
all = package_var 0 ∷ package_var 1 ∷ package_var 2 ∷ package_var 3 ∷ []

-- without 1, its own demand and main's demand on it are gone
pub without_first : (restricted narrow (package_var 0 ∷ package_var 2 ∷ package_var 3 ∷ [])).demands (choice 0 0) ≡ second ∷ third ∷ []
without_first = refl

-- without main there is no root
pub without_main : (restricted narrow (package_var 1 ∷ package_var 2 ∷ package_var 3 ∷ [])).roots ≡ []
without_main = refl

-- 1 is dropped; main and 3 hold without 2; main and the better value of 2 hold without 3
abbrev tight : Shrunk
tight = record {
  set = package_var 0 ∷ package_var 2 ∷ package_var 3 ∷ [];
  maps = [] ∷ (choice 0 0 ∷ choice 3 0 ∷ []) ∷ (choice 0 0 ∷ choice 2 1 ∷ []) ∷ [];
}

pub shrunk : (shrinking narrow all Unlimited).ended ≡ Tight tight
unfolding guided_answer open_vars reason conflict circular first_clash made_active active
shrunk = refl

-- the search without 1 exhausts four points, and with a budget of two it gives up at the third
pub within_budget : (shrinking narrow all (At 4)).ended ≡ Tight tight
unfolding guided_answer open_vars reason conflict circular first_clash made_active active
within_budget = refl

pub over_budget : (shrinking narrow all (At 2)).ended ≡ OverBudget 2
unfolding guided_answer open_vars reason conflict circular first_clash made_active active
over_budget = refl
