-- Problems as lists.
use Rattle.std.specs.Prelude.{◌≢◌, ℕ, zero, suc, Bool, true, false, cond, not, ◌&&◌, nat_eq, nat_lt, List, [], ◌∷◌, length, filter, All, AllPairs}
use Rattle.std.specs.Ordering.{is_eq}
use Rattle.std.specs.List.{list_all, list_any}
use Rattle.qualified_goals.specs.declared.variable.Var.{Var}
use Rattle.choice_problem.specs.declared.problem.Choice.{Choice}
use Rattle.choice_problem.specs.declared.problem.Demand.{Demand}
use Rattle.choice_problem.specs.declared.written.WrittenVar.{WrittenVar}
use Rattle.qualified_goals.specs.Variable.{qual_cmp, same_var}
use Rattle.choice_problem.specs.Problem.{Problem, IsOrderBelow, IsRoot, IsOwned}

-- whether the number is one of the values
abbrev pub is_among : List ℕ → ℕ → Bool
is_among values n = list_any (λ m. nat_eq m n) values

-- whether a variable is listed
abbrev pub is_listed : List WrittenVar → Var → Bool
is_listed variables v = list_any (λ w. same_var w.var v) variables

-- the values of a variable, the best first
abbrev pub order_of : List WrittenVar → Var → List ℕ
order_of [] v = []
order_of (w ∷ variables) v = cond (same_var w.var v) w.order (order_of variables v)

-- the barred values of a variable
abbrev pub barred_of : List WrittenVar → Var → List ℕ
barred_of [] v = []
barred_of (w ∷ variables) v = cond (same_var w.var v) w.barred (barred_of variables v)

-- whether the condition begins with this choice
abbrev pub begins_with : Choice → List Choice → Bool
begins_with owner [] = false
begins_with owner (c ∷ others) = same_var c.var owner.var && nat_eq c.val owner.val

-- the problem of these lists
abbrev pub problem_of : List WrittenVar → List Demand → List Demand → Problem
problem_of variables roots demands = record {
  bound = length variables;
  known = is_listed variables;
  domain = λ v. length (order_of variables v);
  roots = roots;
  order = λ v trail. order_of variables v;
  barred = λ c. is_among (barred_of variables c.var) c.val;
  demands = λ owner. filter (λ d. begins_with owner d.when) demands;
}

-- each variable is listed once, each order has each number below its length once, and no demand breaks a law
pub record AreLawful (variables : List WrittenVar) (roots demands : List Demand) : Type 0 where
  pub once : AllPairs (λ v w. v.var ≢ w.var) variables
  pub orders : All (λ w. IsOrderBelow (length w.order) w.order) variables
  pub roots_are : All (IsRoot (problem_of variables roots demands)) roots
  pub demands_are : All (λ d. (owner : Choice) × IsOwned (problem_of variables roots demands) owner d) demands

-- the laws as tests

-- whether each number below n is among the values
abbrev pub has_each_below : ℕ → List ℕ → Bool
has_each_below zero values = true
has_each_below (suc n) values = is_among values n && has_each_below n values

-- whether no value is repeated
abbrev pub is_once : List ℕ → Bool
is_once [] = true
is_once (n ∷ values) = not (is_among values n) && is_once values

-- whether the values are the numbers below their count, each once
abbrev pub is_order : List ℕ → Bool
is_order values = list_all (λ n. nat_lt n (length values)) values && (has_each_below (length values) values && is_once values)

-- whether no variable is listed twice
abbrev pub are_listed_once : List WrittenVar → Bool
are_listed_once [] = true
are_listed_once (w ∷ variables) = not (is_listed variables w.var) && are_listed_once variables

-- whether a choice is of a part of the owner's package, under its qualifier
abbrev pub is_beside : Choice → Choice → Bool
is_beside owner c = is_eq (qual_cmp c.var.qual owner.var.qual) && nat_eq c.var.«package» owner.var.«package»

-- whether there are no choices
abbrev pub is_empty : List Choice → Bool
is_empty [] = true
is_empty (c ∷ others) = false

-- whether choices are an owner, followed by parts of its package
abbrev pub is_condition : List Choice → Bool
is_condition [] = false
is_condition (owner ∷ others) = list_all (is_beside owner) others

-- whether the lists keep the laws of a problem
abbrev pub are_lawful : List WrittenVar → List Demand → List Demand → Bool
are_lawful variables roots demands =
    (are_listed_once variables && list_all (λ w. is_order w.order) variables)
    && (list_all (λ d. is_empty d.when && is_listed variables d.target) roots
    && list_all (λ d. is_condition d.when && is_listed variables d.target) demands)
