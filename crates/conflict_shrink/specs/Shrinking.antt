-- Shrinking a conflict set: the variables that stay, and an assignment that holds without each.
use Rattle.std.specs.Prelude.{◌≡◌, ℕ, ◌+◌, ◌-◌, min, List, [], ◌∷◌, ◌++◌, filter, map, IsTrue}
use Rattle.std.specs.List.{AllZip}
use Rattle.plan_types.specs.declared.limit.Limit.{Limit}
use Rattle.plan_types.specs.declared.limit.Limit.TheVariants.{Unlimited, At}
use Rattle.qualified_goals.specs.declared.variable.Var.{Var}
use Rattle.choice_problem.specs.declared.problem.Choice.{Choice}
use Rattle.choice_problem.specs.Problem.{Problem}
use Rattle.choice_problem.specs.General.{General}
use Rattle.choice_problem.specs.Holds.{HoldsWithin, AdmitsNone}
use Rattle.choice_problem.specs.Trail.{value_in, AreNew}
use Rattle.choice_problem.specs.ConflictSet.{has, without}
use Rattle.choice_problem.specs.Guide.{cap}
use Rattle.choice_problem.specs.Answer.{Ended, Found, Failed, GaveUp, Answer, answer_of}
use Rattle.conflict_shrink.specs.declared.shrinking.Stage.{Stage}
use Rattle.conflict_shrink.specs.declared.shrinking.Shrunk.{Shrunk}
use Rattle.conflict_shrink.specs.Restricted.{restricted}

-- the rest of a budget of exhausted points
abbrev pub limit_after : Limit → ℕ → Limit
limit_after Unlimited spent = Unlimited
limit_after (At budget) spent = At (budget - spent)

-- the answer of the search without a variable
abbrev pub answer_without : Problem → Limit → Var → Stage → Answer
answer_without p budget v s = answer_of (restricted p (without v s.left)) (limit_after budget s.spent)

-- the number of values that this search tries
abbrev pub tries_without : Problem → Limit → Var → Stage → ℕ
tries_without p budget v s = (answer_without p budget v s).past.counts.visited

-- the exhausted points with those of one more search, at most cap
abbrev pub spent_with : ℕ → Stage → ℕ
spent_with exhausted s = min (s.spent + exhausted) cap

-- the result of a search without a variable: the next stage, or all exhausted points where the search gave up
pub data Tried : Type 0 where
  GoesOn : Stage → Tried
  GivesUp : ℕ → Tried

-- the variable stays where a trail is found without it, and is dropped where none exists
abbrev pub after_search : Var → Stage → Ended → ℕ → Tried
after_search v s (Found trail) spent = GoesOn (record { left = s.left; trails = s.trails ++ trail ∷ []; spent = spent })
after_search v s (Failed set) spent = GoesOn (record { left = without v s.left; trails = s.trails; spent = spent })
after_search v s GaveUp spent = GivesUp spent

-- one variable tried
abbrev pub tried : Problem → Limit → Var → Stage → Tried
tried p budget v s =
    let answer = answer_without p budget v s in
    after_search v s answer.ended (spent_with answer.past.counts.exhausted s)

-- the choices of the variables of a set
abbrev pub cut : List Var → List Choice → List Choice
cut set trail = filter (λ c. has set c.var) trail

-- the end of a shrinking: a set with an assignment for each variable, or the exhausted points when over budget
pub data ShrinkEnd : Type 0 where
  Tight : Shrunk → ShrinkEnd
  OverBudget : ℕ → ShrinkEnd

-- the end of a shrinking, and the number of values that its searches tried
pub record Shrinking : Type 0 where
  pub ended : ShrinkEnd
  pub visited : ℕ

-- the shrinking ends with this set, or over budget
abbrev pub EndsTight : Shrinking → Shrunk → Type 0
EndsTight shrinking shrunk = shrinking.ended ≡ Tight shrunk

abbrev pub EndsOver : Shrinking → ℕ → Type 0
EndsOver shrinking spent = shrinking.ended ≡ OverBudget spent

-- the set left, with the trails found, restricted to it
abbrev pub shrunk_at : Stage → Shrunk
shrunk_at s = record { set = s.left; maps = map (cut s.left) s.trails }

-- a shrinking with more tries before it
abbrev pub after_tries : ℕ → Shrinking → Shrinking
after_tries visited later = record { ended = later.ended; visited = visited + later.visited }

-- the shrinking after the search without a variable
abbrev pub go_on : Tried → (Stage → Shrinking) → Shrinking
go_on (GoesOn s) rest = rest s
go_on (GivesUp spent) rest = record { ended = OverBudget spent; visited = 0 }

-- the shrinking from a stage, with these variables untried
abbrev pub shrink_from : Problem → Limit → List Var → Stage → Shrinking
shrink_from p budget [] s = record { ended = Tight (shrunk_at s); visited = 0 }
shrink_from p budget (v ∷ untried) s =
    after_tries (tries_without p budget v s) (go_on (tried p budget v s) (shrink_from p budget untried))

-- the stage before any variable is tried
abbrev pub untried_stage : List Var → Stage
untried_stage set = record { left = set; trails = []; spent = 0 }

-- the shrinking of a set: its variables are tried in goal order
abbrev pub shrinking : Problem → List Var → Limit → Shrinking
shrinking p set budget = shrink_from p budget set (untried_stage set)

-- choices, no two of one variable, that hold within the set without one variable
pub record IsFreed (g : General) (set : List Var) (v : Var) (choices : List Choice) : Type 0 where
  pub once : AreNew choices
  pub holds : HoldsWithin g (has (without v set)) (value_in choices)

-- a subset that admits none, with an assignment for each of its variables that holds without it
pub record IsTight (g : General) (of : List Var) (shrunk : Shrunk) : Type 0 where
  pub within : (v : Var) → IsTrue (has shrunk.set v) → IsTrue (has of v)
  pub none : AdmitsNone g (has shrunk.set)
  pub freed : AllZip (IsFreed g shrunk.set) shrunk.set shrunk.maps
