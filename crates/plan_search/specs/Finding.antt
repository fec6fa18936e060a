-- What a search over an index finds.
use Rattle.std.specs.Prelude.{◌≡◌, Bool}
use Rattle.choice_problem.specs.Problem.{Problem}
use Rattle.choice_problem.specs.Guide.{Guide, least, most_met}
use Rattle.choice_problem.specs.Answer.{guided_answer, outcome_of}
use Rattle.cabal_problem.specs.Problem.{IsProblemOf}
use Rattle.plan_types.specs.declared.index.Index.{Index}
use Rattle.plan_types.specs.declared.project.Settings.{Settings}
use Rattle.plan_search.specs.Blame.{blame_of}
use Rattle.plan_search.specs.declared.search.Finding.{Finding}
use Rattle.plan_search.specs.declared.search.Picking.{Picking}
use Rattle.plan_search.specs.declared.search.Picking.TheVariants.{Least, MostMet}

-- the guide of a picking
abbrev pub guide_of : Picking → Guide
guide_of Least = least
guide_of MostMet = most_met

-- names by which the packages have a problem, the outcome of its search under the settings' limit, and the blame
pub record IsFindingOf (picking : Picking) (minimize : Bool) (index : Index) (settings : Settings) (finding : Finding) : Type 0 where
  pub problem : Problem
  pub problem_is : IsProblemOf index settings.project finding.names problem
  pub outcome_is : finding.outcome ≡ outcome_of (guided_answer (guide_of picking) problem settings.limit)
  pub blame_is : finding.blame ≡ blame_of minimize problem settings.limit finding.outcome
