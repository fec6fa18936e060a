use Rattle.common_laws.specs.Small.{some_at}
use Rattle.validation.proofs.JoinedSources.{pending-sources}
use Rattle.validation.proofs.pending.PendingGraph.few_sources.Goals as goal

pub returns : goal.returns
returns c = pending-sources _ _ _ _ _ _ c.args.to c.in-Some.found _ c.self.invariant c.self.view_is (some_at _ _ _ c.in-Some.is c.in_ok-found.ensures) c.in_ok-all.ensures
