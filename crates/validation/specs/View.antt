-- States as views of a problem's choices, with their listed and active demands.
use Rattle.std.specs.Prelude.{◌≡◌, ℕ, List, [], ◌∷◌, ◌++◌, length, All, None}
use Rattle.choice_problem.specs.declared.problem.Choice.{Choice}
use Rattle.choice_problem.specs.Problem.{Problem, IsChoice}
use Rattle.choice_problem.specs.Trail.{AreNew, demands_after}
use Rattle.choice_problem.specs.Active.{active}
use Rattle.choice_problem.specs.Conflict.{lasting_set}
pub use Rattle.choice_stack.specs.View.{View}

-- what a count gives before each choice of a trail, where other choices come before
abbrev pub counts_along : (List Choice → ℕ) → List Choice → List Choice → List ℕ
counts_along count before [] = []
counts_along count before (c ∷ rest) = count before ∷ counts_along count (before ++ c ∷ []) rest

-- the number of demands listed before each
abbrev pub listed_counts : Problem → List Choice → List Choice → List ℕ
listed_counts p = counts_along (λ trail. length (demands_after p trail))

-- the number of demands active before each
abbrev pub counts_before : Problem → List Choice → List Choice → List ℕ
counts_before p = counts_along (λ trail. length (active p trail))

-- the view of a problem after the choices of a trail
abbrev pub view_of : Problem → List Choice → View
view_of p trail = record {
  trail = trail;
  listed = demands_after p trail;
  active = active p trail;
  listed_before = listed_counts p [] trail;
  active_before = counts_before p [] trail;
}

-- the state is the view of its trail; its choices are of different variables of the problem
pub record Represents (p : Problem) (state : View) : Type 0 where
  pub choices : All (IsChoice p) state.trail
  pub new : AreNew state.trail
  pub same : state ≡ view_of p state.trail
  -- the lasting rules give no set so far
  pub lasting : lasting_set state.trail state.active ≡ None
