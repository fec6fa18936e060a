use Rattle.validation.proofs.JoinedSources.{pending-sources}
use Rattle.validation.proofs.pending.PendingGraph.sources.Goals as goal

pub returns : goal.returns
returns c = pending-sources _ _ _ _ _ _ c.args.to _ _ c.self.invariant c.self.view_is c.in_ok-found.ensures c.in_ok-all.ensures
