-- How a search without a limit ends.
use Rattle.std.specs.Prelude.{false}
use Rattle.plan_types.specs.declared.index.Index.{Index}
use Rattle.plan_types.specs.declared.limit.Limit.TheVariants.{Unlimited}
use Rattle.plan_types.specs.declared.project.Settings.{Settings}
use Rattle.qualified_goals.specs.Names.{NameTable}
use Rattle.choice_problem.specs.declared.outcome.Outcome.{Outcome}
use Rattle.choice_problem.specs.declared.outcome.Outcome.TheVariants as outcome
use Rattle.plan_search.specs.Finding.{IsFindingOf}
use Rattle.plan_search.specs.Meaning.{AreToBlame, IsFirstTrail}
use Rattle.plan_search.specs.declared.search.Finding.{Finding}
use Rattle.plan_search.specs.declared.search.Picking.TheVariants.{Least}

-- the settings without their limit
abbrev pub unlimited : Settings → Settings
unlimited settings = record { env = settings.env; project = settings.project; limit = Unlimited }

-- A trail is that of the first complete, valid assignment; a conflict set admits none, and there is no such
-- assignment; the search doesn't give up.
abbrev pub EndsFirstOrNone : Index → Settings → NameTable → Outcome → Type 0
EndsFirstOrNone index settings names (outcome.Found trail counts) = IsFirstTrail index settings names trail
EndsFirstOrNone index settings names (outcome.NoPlan set counts) = AreToBlame index settings names set
EndsFirstOrNone index settings names (outcome.GaveUp counts) = ⊥

-- a search without a limit has a finding, with such an outcome
pub record EndsUnlimited (index : Index) (settings : Settings) : Type 0 where
  pub finding : Finding
  pub found : IsFindingOf Least false index (unlimited settings) finding
  pub ends : EndsFirstOrNone index settings finding.names finding.outcome
