use Rattle.std.proofs.Common.{subst}
use Rattle.choice_problem.specs.declared.outcome.Outcome.{Outcome}
use Rattle.plan_search.specs.declared.search.Picking.TheVariants.{Least}
use Rattle.plan_search.specs.Meaning.{MeansOutcome}
use Rattle.frozen_run.proofs.Found.{found-again}
use Rattle.frozen_run.proofs.laws.frozen_trail_is_found_again.Goals as goal

pub returns : goal.returns
returns c minimize again index settings found finding trail counts constraints sound there is outcome_is union also =
    let means = c.what_is_found_is_right.ensures Least minimize index settings found sound there is in
    let first = subst (λ (o : Outcome). MeansOutcome Least index settings found.names o) outcome_is means in
    found-again c.found_again.ensures c.one_finding.ensures again index settings found.names trail constraints sound there first union finding also
