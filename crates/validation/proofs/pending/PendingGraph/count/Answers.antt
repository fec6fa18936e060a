use Rattle.std.proofs.Common.{◌∙◌, ap, length}
use Rattle.validation.specs.View.{View}
use Rattle.validation.proofs.Weighed.{pending-count}
use Rattle.validation.proofs.pending.PendingGraph.count.Goals as goal

pub returns : goal.returns
returns c =
    let i = c.self.inside in
    pending-count i.stack.now i.addition.now i.woken i.fresh i.count c.self.invariant ∙ ap (λ (x : View). length x.active) c.self.view_is
