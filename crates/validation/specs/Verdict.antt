-- The verdict on a choice.
use Rattle.std.specs.Prelude.{◌≡◌, List, [], ◌∷◌, ◌++◌, Option, Some, None, find}
use Rattle.qualified_goals.specs.declared.variable.Var.{Var}
use Rattle.choice_problem.specs.declared.problem.Choice.{Choice}
use Rattle.choice_problem.specs.declared.problem.Demand.{Demand}
use Rattle.choice_problem.specs.Problem.{Problem}
use Rattle.choice_problem.specs.Conflict.{barred_set, refuses, set_of_first, lasting_sets, first_set}
use Rattle.validation.specs.declared.verdict.Verdict.{Verdict}
use Rattle.validation.specs.declared.verdict.Verdict.TheVariants.{Accepted, Conflict}
use Rattle.validation.specs.View.{View, Represents}
use Rattle.validation.specs.Pending.{first_broken}

-- a choice with a conflict set is refused with it, and any other accepted
abbrev pub verdict_of : Option (List Var) → Verdict
verdict_of None = Accepted
verdict_of (Some set) = Conflict set

-- the conflict set of a value that is barred, or that an active demand refuses
abbrev pub set_before : Problem → Choice → List Demand → Option (List Var)
set_before p c active = first_set (barred_set p c ∷ set_of_first (find (refuses c) active) ∷ [])

-- the set of the first demand that became active with the last choice and is broken, or of the first lasting rule
abbrev pub set_after : View → Option (List Var)
set_after s = first_set (set_of_first (first_broken s) ∷ lasting_sets s.trail s.active)

-- the state after a verdict: an accepted choice is appended, and a conflict changes nothing
abbrev pub Leaves : Problem → View → View → Choice → Verdict → Type 0
Leaves p old new c Accepted = Represents p new × (new.trail ≡ old.trail ++ c ∷ [])
Leaves p old new c (Conflict set) = new ≡ old
