-- A problem of choices as functions, and the laws of a lawful problem.
use Rattle.std.specs.Prelude.{◌≡◌, ℕ, ◌<◌, ◌≤◌, Bool, IsTrue, List, [], ◌∷◌, length, All, AllPairs, Contains, ◌⊎◌, ◌≢◌}
use Rattle.qualified_goals.specs.declared.variable.Var.{Var}
use Rattle.choice_problem.specs.declared.problem.Choice.{Choice}
use Rattle.choice_problem.specs.declared.problem.Demand.{Demand}

-- a problem as functions, with demands of some type; at most bound variables are known
pub record ProblemOf (D : Type 0) : Type 0 where
  pub bound : ℕ
  pub known : Var → Bool
  pub domain : Var → ℕ
  pub roots : List D
  pub order : Var → List Choice → List ℕ
  pub barred : Choice → Bool
  pub demands : Choice → List D

-- a problem that is searched: the condition of a demand is a list of choices
abbrev pub Problem : Type 0
Problem = ProblemOf Demand

-- the variable is known, and the value is one of its domain
pub record IsChoice {D : Type 0} (p : ProblemOf D) (c : Choice) : Type 0 where
  pub variable : IsTrue (p.known c.var)
  pub value : c.val < p.domain c.var

-- d is a root, or a choice owns it
abbrev pub IsDemand : {D : Type 0} → ProblemOf D → D → Type 0
IsDemand p d = Contains p.roots d ⊎ ((owner : Choice) × IsChoice p owner × Contains (p.demands owner) d)

-- each number below n once, and no other
pub record IsOrderBelow (n : ℕ) (values : List ℕ) : Type 0 where
  pub below : All (λ x. x < n) values
  pub each : (x : ℕ) → x < n → Contains values x
  pub once : AllPairs (λ x y. x ≢ y) values

-- a list of at most bound variables that contains each known one
pub record IsBounded {D : Type 0} (p : ProblemOf D) : Type 0 where
  pub variables : List Var
  pub count : length variables ≤ p.bound
  pub each : (v : Var) → IsTrue (p.known v) → Contains variables v

-- the order of a known variable has each value of its domain once
abbrev pub IsOrdered : {D : Type 0} → ProblemOf D → Type 0
IsOrdered p = (v : Var) → IsTrue (p.known v) → (trail : List Choice) → All (IsChoice p) trail → IsOrderBelow (p.domain v) (p.order v trail)

-- c is of a part of the owner's package, under the same qualifier
pub record IsBeside (owner c : Choice) : Type 0 where
  pub same_qualifier : c.var.qual ≡ owner.var.qual
  pub same_package : c.var.package ≡ owner.var.package

-- a demand without condition, on a known variable
pub record IsRoot (p : Problem) (d : Demand) : Type 0 where
  pub condition : d.when ≡ []
  pub target : IsTrue (p.known d.target)

-- the owner comes first in the condition, and parts of its package follow
pub record IsOwned (p : Problem) (owner : Choice) (d : Demand) : Type 0 where
  pub others : List Choice
  pub condition : d.when ≡ owner ∷ others
  pub beside : All (IsBeside owner) others
  pub target : IsTrue (p.known d.target)

-- the laws of a problem
pub record Lawful (p : Problem) : Type 0 where
  pub bounded : IsBounded p
  pub order : IsOrdered p
  pub roots : All (IsRoot p) p.roots
  pub demands : (owner : Choice) → IsChoice p owner → All (IsOwned p owner) (p.demands owner)
