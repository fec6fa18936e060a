-- Guides, which pick the next variable of a search.
use Rattle.std.specs.Prelude.{◌≡◌, ℕ, ◌-◌, ◌^◌, min, nat_lt, cond, true, List, [], ◌∷◌, length, filter, Option, Some, None}
use Rattle.qualified_goals.specs.declared.variable.Var.{Var}
use Rattle.choice_problem.specs.ConflictSet.{has, first_of}

-- the greatest count
abbrev pub cap : ℕ
cap = 2 ^ 64 - 1

-- A guide picks one of the open variables by the conflict sets so far. These begin with the last one.
abbrev pub Guide : Type 0
Guide = List (List Var) → List Var → Option Var

-- it picks one of them wherever there is one
pub record IsGuide (guide : Guide) : Type 0 where
  pub picked : (met : List (List Var)) (vars : List Var) (v : Var) → guide met vars ≡ Some v → has vars v ≡ true
  pub none : (met : List (List Var)) (vars : List Var) → guide met vars ≡ None → vars ≡ []

-- the guide that picks the least open variable
abbrev pub least : Guide
least met vars = first_of vars

-- the number of sets that have the variable, at most cap
abbrev pub score : List (List Var) → Var → ℕ
score met v = min (length (filter (λ set. has set v) met)) cap

-- the variable with the greater score, the first one where the scores are equal
abbrev pub better : List (List Var) → Var → Option Var → Option Var
better met v None = Some v
better met v (Some w) = Some (cond (nat_lt (score met v) (score met w)) w v)

-- the guide that picks the greatest score, of these the least variable
abbrev pub most_met : Guide
most_met met [] = None
most_met met (v ∷ vars) = better met v (most_met met vars)
