-- Guides: the conflict sets and choices that they recall, and how these change.
use Rattle.std.specs.Prelude.{◌≡◌, List, [], ◌∷◌, ◌++◌, None}
use Rattle.qualified_goals.specs.declared.variable.Var.{Var}
use Rattle.choice_problem.specs.declared.problem.Choice.{Choice}
use Rattle.choice_problem.specs.Trail.{value_in}

-- a guide recalls these conflict sets, the last one first, and these choices
abbrev pub Recalls : Type 0 → Type 1
Recalls G = G → List (List Var) → List Choice → Type 0

module _ {G : Type 0} (recalls : Recalls G) where
  -- with these choices, the guide recalls the same conflict sets as before
  abbrev pub RecallsStill : List Choice → G → G → Type 0
  RecallsStill trail old new = (met : List (List Var)) → recalls old met trail → recalls new met trail

  -- the guide recalls one more conflict set
  abbrev pub Learns : List Var → List Choice → G → G → Type 0
  Learns set trail old new = (met : List (List Var)) → recalls old met trail → recalls new (set ∷ met) trail

  -- the guide recalls one more choice, which is of the variable
  abbrev pub Follows : Var → G → G → Type 0
  Follows v old new =
      (met : List (List Var)) (trail : List Choice) (c : Choice) → c.var ≡ v → recalls old met trail → recalls new met (trail ++ c ∷ [])

  -- the guide recalls the choices without the last one, which was of the variable
  abbrev pub GoesBack : Var → G → G → Type 0
  GoesBack v old new =
      (met : List (List Var)) (front : List Choice) (c : Choice) → c.var ≡ v → value_in front v ≡ None
      → recalls old met (front ++ c ∷ []) → recalls new met front
