-- Complete, valid assignments, and the first of them.
use Rattle.std.specs.Prelude.{◌≡◌, ◌↔◌, ℕ, IsSome, List, ◌∷◌, ◌++◌, Contains, map}
use Rattle.qualified_goals.specs.declared.variable.Var.{Var}
use Rattle.choice_problem.specs.declared.problem.Choice.{Choice}
use Rattle.choice_problem.specs.Assignment.{Assignment}
use Rattle.choice_problem.specs.General.{General}
use Rattle.choice_problem.specs.Holds.{HoldsWithin}
use Rattle.choice_problem.specs.Trail.{trail_of, choice_of}

-- A holds within all known variables, and gives a value to those of its trail alone
pub record IsWholeValid (g : General) (A : Assignment) : Type 0 where
  pub holds : HoldsWithin g g.known A
  pub reached : (v : Var) → IsSome (A v) ↔ Contains (map (λ c. c.var) (trail_of g A)) v

-- m stands before n in the list
abbrev pub IsEarlier : List ℕ → ℕ → ℕ → Type 0
IsEarlier values m n = (front : List ℕ) × (between : List ℕ) × (rest : List ℕ) × (values ≡ front ++ (m ∷ between ++ (n ∷ rest)))

-- where the trails first differ, they have one variable, and the value of A comes earlier in its order
pub record ComesBefore (g : General) (A B : Assignment) : Type 0 where
  pub common : List Choice
  pub var : Var
  pub of_A : ℕ
  pub of_B : ℕ
  pub rest_of_A : List Choice
  pub rest_of_B : List Choice
  pub trail_of_A : trail_of g A ≡ common ++ choice_of var of_A ∷ rest_of_A
  pub trail_of_B : trail_of g B ≡ common ++ choice_of var of_B ∷ rest_of_B
  pub earlier : IsEarlier (g.order var common) of_A of_B

-- A is complete and valid, and no complete, valid assignment comes before it
pub record IsFirst (g : General) (A : Assignment) : Type 0 where
  pub whole_valid : IsWholeValid g A
  pub none_before : (B : Assignment) → IsWholeValid g B → ComesBefore g B A → ⊥
