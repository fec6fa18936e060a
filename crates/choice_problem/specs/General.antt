-- Validity depends on a demand's owner, target and allowed values, and on whether it is Yes under an assignment.
-- It doesn't depend on how the condition is written.
use Rattle.std.specs.Prelude.{◌≡◌, ℕ, Bool, true, IsTrue, List, [], ◌∷◌, Option, Some, None, All, map}
use Rattle.qualified_goals.specs.declared.variable.Var.{Var}
use Rattle.choice_problem.specs.declared.problem.Choice.{Choice}
use Rattle.choice_problem.specs.declared.problem.Demand.{Demand}
use Rattle.choice_problem.specs.Assignment.{Assignment, is_yes}
use Rattle.choice_problem.specs.Problem.{ProblemOf, Problem, IsChoice, IsBounded, IsOrdered}

-- a demand with any condition; a root has no owner
pub record Request : Type 0 where
  pub owner : Option Choice
  pub target : Var
  pub allowed : List ℕ
  pub is_yes : Assignment → Bool

-- a problem whose demands have any conditions
abbrev pub General : Type 0
General = ProblemOf Request

-- a demand without owner, on a known variable
pub record IsRootRequest (g : General) (r : Request) : Type 0 where
  pub owner : r.owner ≡ None
  pub target : IsTrue (g.known r.target)

-- a demand on a known variable that is Yes only where its owner is chosen
pub record IsOwnedRequest (g : General) (owner : Choice) (r : Request) : Type 0 where
  pub owner_is : r.owner ≡ Some owner
  pub target : IsTrue (g.known r.target)
  pub chosen : (A : Assignment) → r.is_yes A ≡ true → A owner.var ≡ Some owner.val

-- the laws of a problem
pub record LawfulGeneral (g : General) : Type 0 where
  pub bounded : IsBounded g
  pub order : IsOrdered g
  pub roots : All (IsRootRequest g) g.roots
  pub demands : (owner : Choice) → IsChoice g owner → All (IsOwnedRequest g owner) (g.demands owner)

-- the first choice of a condition
abbrev pub owner_of : List Choice → Option Choice
owner_of [] = None
owner_of (owner ∷ others) = Some owner

-- a demand as a request
abbrev pub request_of : Demand → Request
request_of d = record { owner = owner_of d.when; target = d.target; allowed = d.allowed; is_yes = λ A. is_yes A d }

-- a problem that is searched, as a general one
abbrev pub general : Problem → General
general p = record {
  bound = p.bound;
  known = p.known;
  domain = p.domain;
  roots = map request_of p.roots;
  order = p.order;
  barred = p.barred;
  demands = λ owner. map request_of (p.demands owner);
}
