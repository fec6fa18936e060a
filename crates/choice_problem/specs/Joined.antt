-- Problems that differ only in how conditions are written have the same valid assignments.
use Rattle.std.specs.Prelude.{◌≡◌, ◌↔◌, Bool, true}
use Rattle.qualified_goals.specs.declared.variable.Var.{Var}
use Rattle.choice_problem.specs.Assignment.{Assignment}
use Rattle.choice_problem.specs.Problem.{IsDemand}
use Rattle.choice_problem.specs.General.{Request, General}
use Rattle.choice_problem.specs.Holds.{IsAssignmentIn, HoldsWithin}
use Rattle.choice_problem.specs.Trail.{trail_of}
use Rattle.choice_problem.specs.Valid.{IsWholeValid, ComesBefore, IsFirst}

-- h has a demand with r's owner, target and allowed values that is Yes under A
pub record HasYes (h : General) (A : Assignment) (r : Request) : Type 0 where
  pub other : Request
  pub demand : IsDemand h other
  pub owner : other.owner ≡ r.owner
  pub target : other.target ≡ r.target
  pub allowed : other.allowed ≡ r.allowed
  pub yes : other.is_yes A ≡ true

-- for each demand of g that is Yes, h has one with the same owner, target and allowed values that is Yes
abbrev pub IsYesIn : General → General → Type 0
IsYesIn g h = (A : Assignment) (r : Request) → IsDemand g r → r.is_yes A ≡ true → HasYes h A r

-- the same variables, values, orders and bars, and demands that are Yes together
pub record AreYesTogether (g h : General) : Type 0 where
  pub bound : g.bound ≡ h.bound
  pub known : g.known ≡ h.known
  pub domain : g.domain ≡ h.domain
  pub order : g.order ≡ h.order
  pub barred : g.barred ≡ h.barred
  pub there : IsYesIn g h
  pub back : IsYesIn h g

-- the same valid assignments and first ones; trails are the same for assignments of known variables to domain values
pub record AreOne (g h : General) : Type 0 where
  pub holds : (set : Var → Bool) (A : Assignment) → HoldsWithin g set A ↔ HoldsWithin h set A
  pub trails : (A : Assignment) → IsAssignmentIn g g.known A → trail_of g A ≡ trail_of h A
  pub valid : (A : Assignment) → IsWholeValid g A ↔ IsWholeValid h A
  pub before : (A B : Assignment) → IsAssignmentIn g g.known A → IsAssignmentIn g g.known B → ComesBefore g A B ↔ ComesBefore h A B
  pub first : (A : Assignment) → IsFirst g A ↔ IsFirst h A
