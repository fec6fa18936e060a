-- The restriction of a problem to the variables of a set, and to the demands among them.
use Rattle.std.specs.Prelude.{IsTrue, Bool, ◌&&◌, ◌↔◌, List, length, filter}
use Rattle.std.specs.List.{list_all}
use Rattle.qualified_goals.specs.declared.variable.Var.{Var}
use Rattle.choice_problem.specs.declared.problem.Demand.{Demand}
use Rattle.choice_problem.specs.Assignment.{Assignment}
use Rattle.choice_problem.specs.Problem.{Problem}
use Rattle.choice_problem.specs.General.{general}
use Rattle.choice_problem.specs.Holds.{AdmitsNone}
use Rattle.choice_problem.specs.Valid.{IsWholeValid}
use Rattle.choice_problem.specs.ConflictSet.{has}

-- whether the target of a demand and its whole condition are in the set
abbrev pub stays_in : List Var → Demand → Bool
stays_in set d = has set d.target && list_all (λ c. has set c.var) d.when

-- the problem restricted to the variables of a set
abbrev pub restricted : Problem → List Var → Problem
restricted p set = record {
  bound = length set;
  known = has set;
  domain = p.domain;
  roots = filter (stays_in set) p.roots;
  order = p.order;
  barred = p.barred;
  demands = λ owner. filter (stays_in set) (p.demands owner);
}

-- whether the problem knows each variable of a set
abbrev pub are_known : Problem → List Var → Bool
are_known p set = list_all p.known set

-- a set of known variables that admits none
pub record CanBeShrunk (p : Problem) (set : List Var) : Type 0 where
  pub known : IsTrue (are_known p set)
  pub none : AdmitsNone (general p) (has set)

-- no assignment is complete and valid
abbrev pub HasNoPlan : Problem → Type 0
HasNoPlan p = (A : Assignment) → IsWholeValid (general p) A → ⊥

-- the set admits none iff the restricted problem has no complete, valid assignment
abbrev pub AdmitsByRestricted : Problem → List Var → Type 0
AdmitsByRestricted p set = AdmitsNone (general p) (has set) ↔ HasNoPlan (restricted p set)
