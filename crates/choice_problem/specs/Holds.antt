-- Assignments that hold within a set, and sets that admit none.
use Rattle.std.specs.Prelude.{◌≡◌, ℕ, Bool, IsTrue, IsFalse, Some}
use Rattle.qualified_goals.specs.declared.variable.Var.{Var}
use Rattle.choice_problem.specs.declared.problem.Choice.{Choice}
use Rattle.choice_problem.specs.Assignment.{Assignment, is_one_of}
use Rattle.choice_problem.specs.Problem.{IsChoice, IsDemand}
use Rattle.choice_problem.specs.General.{Request, General}
use Rattle.choice_problem.specs.Twins.{must_agree}
use Rattle.common_laws.specs.Graphs.{HasNoCycle}

-- A gives values to known variables of the set alone, each from its domain
pub record IsAssignmentIn (g : General) (set : Var → Bool) (A : Assignment) : Type 0 where
  pub inside : (v : Var) (n : ℕ) → A v ≡ Some n → IsTrue (set v)
  pub choice : (c : Choice) → A c.var ≡ Some c.val → IsChoice g c

-- an edge leads from an owner to the target of its demand, where the demand is Yes and its target is in the set
pub record IsEdge (g : General) (set : Var → Bool) (A : Assignment) (from to : Var) : Type 0 where
  pub request : Request
  pub owner : Choice
  pub demand : IsDemand g request
  pub owner_is : request.owner ≡ Some owner
  pub yes : IsTrue (request.is_yes A)
  pub inside : IsTrue (set request.target)
  pub leaves : owner.var ≡ from
  pub enters : request.target ≡ to

-- a demand that is Yes, with its target in the set
pub record IsAsked (g : General) (set : Var → Bool) (A : Assignment) (r : Request) : Type 0 where
  pub demand : IsDemand g r
  pub yes : IsTrue (r.is_yes A)
  pub inside : IsTrue (set r.target)

-- where two demands must agree, A gives both targets the same value
abbrev pub HaveOneValue : Assignment → Request → Request → Type 0
HaveOneValue A r s = IsTrue (must_agree r.owner r.target s.owner s.target) → A r.target ≡ A s.target

-- A gives values to variables of the set alone, and within it breaks nothing
pub record HoldsWithin (g : General) (set : Var → Bool) (A : Assignment) : Type 0 where
  pub assignment : IsAssignmentIn g set A
  pub unbarred : (c : Choice) → A c.var ≡ Some c.val → IsFalse (g.barred c)
  pub met : (r : Request) → IsDemand g r → IsTrue (r.is_yes A) → IsTrue (set r.target) → IsTrue (is_one_of (A r.target) r.allowed)
  pub acyclic : HasNoCycle (IsEdge g set A)
  pub agree : (r s : Request) → IsAsked g set A r → IsAsked g set A s → HaveOneValue A r s

-- no assignment holds within the set
abbrev pub AdmitsNone : General → (Var → Bool) → Type 0
AdmitsNone g set = (A : Assignment) → HoldsWithin g set A → ⊥
