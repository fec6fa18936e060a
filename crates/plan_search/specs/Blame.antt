-- Blame: what a failure reports besides its conflict set.
use Rattle.std.specs.Prelude.{◌≡◌, ℕ, Bool, true, false, List, if◌then◌else◌}
use Rattle.plan_types.specs.declared.limit.Limit.{Limit}
use Rattle.plan_types.specs.declared.limit.Limit.TheVariants.{At}
use Rattle.qualified_goals.specs.declared.variable.Var.{Var}
use Rattle.choice_problem.specs.declared.outcome.Outcome.{Outcome}
use Rattle.choice_problem.specs.declared.outcome.Outcome.TheVariants as outcome
use Rattle.choice_problem.specs.General.{General}
use Rattle.choice_problem.specs.Problem.{Problem}
use Rattle.conflict_shrink.specs.Shrinking.{IsTight, OverBudget, ShrinkEnd, Tight, shrinking}
use Rattle.plan_search.specs.declared.blame.Blame.{Blame}
use Rattle.plan_search.specs.declared.blame.Blame.TheVariants.{Unasked, Shrunk, TooLong}

-- the blame of a shrinking's end
abbrev pub blame_at : ShrinkEnd → Blame
blame_at (Tight shrunk) = Shrunk shrunk
blame_at (OverBudget spent) = TooLong spent

-- the blame of an outcome: on request a failure's set is shrunk, with the limit of the search as budget
abbrev pub blame_of : Bool → Problem → Limit → Outcome → Blame
blame_of minimize p limit (outcome.Found trail counts) = Unasked
blame_of minimize p limit (outcome.NoPlan set counts) = if minimize then blame_at (shrinking p set limit).ended else Unasked
blame_of minimize p limit (outcome.GaveUp counts) = Unasked

-- the blame of a set that was shrunk: a minimal part that admits none, or, only under a limit, that it took too long
abbrev pub IsBlameOfSet : General → Limit → List Var → Blame → Type 0
IsBlameOfSet g limit set Unasked = ⊥
IsBlameOfSet g limit set (Shrunk shrunk) = IsTight g set shrunk
IsBlameOfSet g limit set (TooLong spent) = (most : ℕ) × (limit ≡ At most)

-- the blame of a set: that of its shrinking, or `Unasked` without a request
abbrev pub IsBlame : Bool → General → Limit → List Var → Blame → Type 0
IsBlame true g limit set blame = IsBlameOfSet g limit set blame
IsBlame false g limit set blame = blame ≡ Unasked

-- the blame of an outcome; `Unasked` if the search didn't fail
abbrev pub MeansBlame : Bool → General → Limit → Outcome → Blame → Type 0
MeansBlame minimize g limit (outcome.Found trail counts) blame = blame ≡ Unasked
MeansBlame minimize g limit (outcome.NoPlan set counts) blame = IsBlame minimize g limit set blame
MeansBlame minimize g limit (outcome.GaveUp counts) blame = blame ≡ Unasked
