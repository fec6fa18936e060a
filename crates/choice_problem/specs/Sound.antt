-- Soundness of conflict sets and answers.
use Rattle.std.specs.Prelude.{◌≡◌, ◌↔◌, ℕ, true, List, [], ◌∷◌, ◌++◌, Some, None, IsSome, All, Contains, map}
use Rattle.qualified_goals.specs.declared.variable.Var.{Var}
use Rattle.choice_problem.specs.declared.problem.Choice.{Choice}
use Rattle.choice_problem.specs.Assignment.{Assignment}
use Rattle.choice_problem.specs.Problem.{Problem, IsChoice}
use Rattle.choice_problem.specs.General.{general}
use Rattle.choice_problem.specs.Holds.{HoldsWithin, AdmitsNone}
use Rattle.choice_problem.specs.Trail.{value_in, trail_of, AreNew}
use Rattle.choice_problem.specs.Active.{open_in, is_open}
use Rattle.choice_problem.specs.Valid.{IsWholeValid, IsFirst}
use Rattle.choice_problem.specs.ConflictSet.{has}
use Rattle.choice_problem.specs.Conflict.{conflict}
use Rattle.choice_problem.specs.Guide.{IsGuide}
use Rattle.choice_problem.specs.Answer.{Ended, Found, Failed, GaveUp, Past, Manner, answer_from}

-- A makes the trail's choices of variables of the set
abbrev pub MakesWithin : List Var → List Choice → Assignment → Type 0
MakesWithin set trail A = (v : Var) (n : ℕ) → has set v ≡ true → value_in trail v ≡ Some n → A v ≡ Some n

-- no assignment holds within the set and makes the trail's choices of its variables
abbrev pub AdmitsNoneWith : Problem → List Var → List Choice → Type 0
AdmitsNoneWith p set trail = (A : Assignment) → HoldsWithin (general p) (has set) A → MakesWithin set trail A → ⊥

-- a conflict's set admits none with the trail and the choice; the trail's choices may be in any order
abbrev pub ConflictsAreSound : Problem → Type 0
ConflictsAreSound p = (trail : List Choice) (c : Choice) (set : List Var)
    → All (IsChoice p) (trail ++ c ∷ []) → value_in trail c.var ≡ None → conflict p trail c ≡ Some set → AdmitsNoneWith p set (trail ++ c ∷ [])

-- the set with which a search fails from a prefix admits none with the prefix, whichever guide picks
abbrev pub FailuresAreSound : Problem → Type 0
FailuresAreSound p = (fuel : ℕ) (manner : Manner) (prefix : List Choice) (past : Past) (set : List Var)
    → IsGuide manner.guide → All (IsChoice p) prefix → (answer_from fuel manner p prefix past).ended ≡ Failed set → AdmitsNoneWith p set prefix

-- the set admits none, and no assignment is complete and valid
abbrev pub AreNone : Problem → List Var → Type 0
AreNone p set = AdmitsNone (general p) (has set) × ((A : Assignment) → IsWholeValid (general p) A → ⊥)

-- the trail found is a complete, valid assignment with each variable once, or none exists
abbrev pub IsValidEnd : Problem → Ended → Type 0
IsValidEnd p (Found trail) = AreNew trail × IsWholeValid (general p) (value_in trail)
IsValidEnd p (Failed set) = AreNone p set
IsValidEnd p GaveUp = ⊥

-- each choice is of a variable that the choices before it have opened
pub data AreOpened (p : Problem) : List Choice → Type 0 where
  none_opened : AreOpened p []
  one_opened : {before : List Choice} {all : List Choice} → AreOpened p before → (c : Choice) → is_open p before c.var ≡ true → all ≡ before ++ c ∷ [] → AreOpened p all

-- choices of open variables, until none is open, have the variables of their assignment's trail
abbrev pub AnyOrderNamesAlike : Problem → Type 0
AnyOrderNamesAlike p = (trail : List Choice) → All (IsChoice p) trail → AreOpened p trail → open_in p trail ≡ []
    → (v : Var) → IsSome (value_in trail v) ↔ Contains (map (λ c. c.var) (trail_of (general p) (value_in trail))) v

-- the trail found is that of the first complete, valid assignment, or none exists
abbrev pub IsRightEnd : Problem → Ended → Type 0
IsRightEnd p (Found trail) = (A : Assignment) × IsFirst (general p) A × (trail ≡ trail_of (general p) A)
IsRightEnd p (Failed set) = AreNone p set
IsRightEnd p GaveUp = ⊥
