use Rattle.std.proofs.Common.{◌∙◌, sym, subst}
use Rattle.choice_problem.specs.Conflict.{edges_of}
use Rattle.demand_cycles.specs.Cycles.{HasEdge}
use Rattle.validation.specs.View.{View}
use Rattle.validation.proofs.Weighed.{pending-chosen}
use Rattle.validation.proofs.pending.PendingGraph.is_chosen.Goals as goal

pub returns : goal.returns
returns c w h =
    let i = c.self.inside in
    c.names.ensures
    ∙ pending-chosen i.stack.now i.addition.now i.woken i.fresh i.count c.self.invariant c.args.v w (sym c.is_same.ensures ∙ c.if-is_same.false)
    (subst (λ (x : View). HasEdge (edges_of x.active) c.args.v w) (sym c.self.view_is) h)
