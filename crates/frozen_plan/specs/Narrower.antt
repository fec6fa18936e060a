-- Narrower problems. The second bars more. Where only its demand allows a value, it bars that value or its owner.
use Rattle.std.specs.Prelude.{◌≡◌, ℕ, IsTrue, IsFalse, Some}
use Rattle.std.specs.List.{AllZip}
use Rattle.choice_problem.specs.declared.problem.Choice.{Choice}
use Rattle.choice_problem.specs.Assignment.{Assignment, is_one_of}
use Rattle.choice_problem.specs.General.{General, Request}
use Rattle.choice_problem.specs.Valid.{IsFirst, IsWholeValid}

-- a problem bars no choice of an assignment
abbrev pub BarsNoneOf : General → Assignment → Type 0
BarsNoneOf h A = (c : Choice) → A c.var ≡ Some c.val → IsFalse (h.barred c)

-- Two demands have one owner and target, and are Yes together. The second allows what the first does. It allows no
-- other value in an assignment that makes it Yes, if its problem bars no choice of this assignment.
pub record IsNarrowed (h : General) (r s : Request) : Type 0 where
  pub owner : r.owner ≡ s.owner
  pub target : r.target ≡ s.target
  pub yes : (A : Assignment) → r.is_yes A ≡ s.is_yes A
  pub allows : (n : ℕ) → IsTrue (is_one_of (Some n) r.allowed) → IsTrue (is_one_of (Some n) s.allowed)
  pub no_other : (A : Assignment) → BarsNoneOf h A → IsTrue (s.is_yes A) → IsTrue (is_one_of (A s.target) s.allowed)
      → IsTrue (is_one_of (A s.target) r.allowed)

-- The second problem has the same variables, values and orders, and bars what the first does. Its demands are those of
-- the first, narrowed one by one.
pub record IsNarrower (g h : General) : Type 0 where
  pub bound : g.bound ≡ h.bound
  pub known : g.known ≡ h.known
  pub domain : g.domain ≡ h.domain
  pub order : g.order ≡ h.order
  pub barred : (c : Choice) → IsFalse (h.barred c) → IsFalse (g.barred c)
  pub roots : AllZip (IsNarrowed h) g.roots h.roots
  pub demands : (owner : Choice) → AllZip (IsNarrowed h) (g.demands owner) (h.demands owner)

-- each complete, valid assignment of the second problem is one of the first
abbrev pub AddsNothing : General → General → Type 0
AddsNothing g h = (A : Assignment) → IsWholeValid h A → IsWholeValid g A

-- an assignment that is the first of the first problem is that of the second too
abbrev pub StaysFirst : General → General → Assignment → Type 0
StaysFirst g h A = IsFirst g A → IsFirst h A
