use Rattle.std.proofs.Common.{◌+◌, take, sym, ap, ◌∙◌, subst}
use Rattle.choice_problem.specs.Conflict.{edges_of}
use Rattle.demand_cycles.specs.Ring.{AreRings}
use Rattle.demand_cycles.proofs.Told.{ring-added, ring-told}
use Rattle.demand_cycles.proofs.cycles.rings_of.Goals as goal
use Rattle.demand_cycles.proofs.cycles.rings_of.Goals.{then-not-any_closes+in_ok-ring_of+in_ok-push, else-not-any_closes}

pub loop-v-preserved : goal.loop-v-preserved
loop-v-preserved g c =
    let edges = edges_of (g.G.Graph.demands c.args.graph.now) in
    let vars = c.args.vars.now in
    let i = c.loop-v.v-index in
    let rings = c.loop-v.rings.items in
    elim c.if-not-any_closes.branch [
      | then-not-any_closes+in_ok-ring_of+in_ok-push w ↦
          subst (AreRings edges (take (i + 1) vars)) (sym (ap (λ l. l.items) w.rings-is ∙ w.in_ok-push.ensures.items))
          (ring-added edges vars i _ rings _ c.loop-v-test.true c.loop-v.invariant w.in_ok-ring_of.ensures)
      | else-not-any_closes w ↦
          subst (AreRings edges (take (i + 1) vars)) (sym (ap (λ l. l.items) w.rings-is))
          (ring-told edges vars i _ rings c.as_slice.result.now c.any_closes.result c.any_closes.ensures c.as_slice.ensures.value w.if-not-any_closes.false c.loop-v-test.true c.loop-v.invariant)
    ]
