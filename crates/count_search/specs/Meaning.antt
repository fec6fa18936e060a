-- The meaning of an outcome of the search that counts conflicts.
use Rattle.std.specs.Prelude.{◌≡◌, ℕ}
use Rattle.plan_types.specs.declared.limit.Limit.{Limit}
use Rattle.plan_types.specs.declared.limit.Limit.TheVariants.{At}
use Rattle.choice_problem.specs.declared.outcome.Outcome.{Outcome}
use Rattle.choice_problem.specs.declared.outcome.Outcome.TheVariants.{Found, NoPlan, GaveUp}
use Rattle.choice_problem.specs.Problem.{Problem}
use Rattle.choice_problem.specs.General.{general}
use Rattle.choice_problem.specs.Trail.{AreNew, value_in}
use Rattle.choice_problem.specs.Valid.{IsWholeValid}
use Rattle.choice_problem.specs.Sound.{AreNone}

-- found: a complete, valid assignment with each variable once; no plan: the set admits none; given up: there is a limit
abbrev pub MeansCounted : Problem → Limit → Outcome → Type 0
MeansCounted p limit (Found trail counts) = AreNew trail × IsWholeValid (general p) (value_in trail)
MeansCounted p limit (NoPlan set counts) = AreNone p set
MeansCounted p limit (GaveUp counts) = (most : ℕ) × (limit ≡ At most)
