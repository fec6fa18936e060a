use Rattle.std.proofs.Common.{◌∷◌, [], refl, sym, ap, ◌∙◌, subst, arith}
use Rattle.choice_problem.specs.Conflict.{edges_of}
use Rattle.demand_cycles.specs.Cycles.{leads_to_any}
use Rattle.demand_cycles.specs.Side.{IsSide, reversed}
use Rattle.demand_cycles.specs.VarSet.{with_keys}
use Rattle.demand_cycles.specs.declared.side.Side.{Side}
use Rattle.demand_cycles.proofs.Sides.{ahead-short, apart-more, found-leads, gone-on, met-leads, targets-reversed}
use Rattle.demand_cycles.proofs.cycles.is_led_to.Goals as goal
use Rattle.demand_cycles.proofs.cycles.is_led_to.Goals.{then-is_seeking+in_ok-sources+in_ok-add-2, else-is_seeking}

pub returns-then-not-is_seeking-clause-is_led : goal.returns-then-not-is_seeking-clause-is_led
returns-then-not-is_seeking-clause-is_led g c =
    let edges = edges_of (g.G.Graph.demands c.args.graph.now) in
    let back = c.search_near.new.back in
    c.holds.ensures
    ∙ found-leads edges back.end back.found back.place c.args.from c.in_ok-search_near.ensures.back (sym c.is_seeking.ensures ∙ c.if-not-is_seeking.true)
    ∙ ap (λ v. leads_to_any edges (v ∷ []) c.args.from) c.in_ok-search_near.ensures.end

pub loop-alloc-init : goal.loop-alloc-init
loop-alloc-init g c =
    let edges = edges_of (g.G.Graph.demands c.args.graph.now) in
    record { ahead = c.new-ahead.ensures.begun (reversed edges); begun = c.new-ahead.ensures.end; back = c.in_ok-search_near.ensures.back; end = refl }

pub loop-alloc-smaller : goal.loop-alloc-smaller
loop-alloc-smaller g c =
    let ahead = c.loop-alloc.ahead in
    let back = c.loop-alloc.back in
    let more = apart-more ahead.place back.place ahead.found back.found ahead.end back.end (sym c.are_apart.ensures ∙ c.loop-alloc-test.true) in
    let short = ahead-short (edges_of (g.G.Graph.demands c.args.graph.now)) ahead.end ahead.found ahead.place c.loop-alloc.invariant.ahead in
    elim c.if-is_seeking.branch [
      | then-is_seeking+in_ok-sources+in_ok-add-2 w ↦ omega (arith, more, short, c.in_ok-add.ensures.place, w.in_ok-add-2.ensures.place, ap (λ (s : Side). s.place) w.back-is)
      | else-is_seeking w ↦ omega (arith, more, short, c.in_ok-add.ensures.place, ap (λ (s : Side). s.place) w.back-is)
    ]

pub loop-alloc-preserved : goal.loop-alloc-preserved
loop-alloc-preserved g c =
    let edges = edges_of (g.G.Graph.demands c.args.graph.now) in
    let ahead = c.loop-alloc.ahead in
    let back = c.loop-alloc.back in
    let targets = c.in_ok-targets.targets in record {
      ahead = gone-on (reversed edges) ahead c.add.new.self c.next.result targets c.loop-alloc.invariant.ahead c.next.ensures c.in_ok-add.ensures.end
          (c.in_ok-add.ensures.found ∙ ap (with_keys ahead.found) c.as_slice.ensures) c.in_ok-add.ensures.place
          (targets-reversed edges c.next.result targets c.in_ok-targets.ensures);
      begun = c.in_ok-add.ensures.end ∙ c.loop-alloc.invariant.begun;
      back = elim c.if-is_seeking.branch [
        | then-is_seeking+in_ok-sources+in_ok-add-2 w ↦
            subst (IsSide edges) (sym w.back-is)
            (gone-on edges back w.add-then-is_seeking.new.self w.next-then-is_seeking.result w.in_ok-sources.sources c.loop-alloc.invariant.back w.next-then-is_seeking.ensures
            w.in_ok-add-2.ensures.end (w.in_ok-add-2.ensures.found ∙ ap (with_keys back.found) w.as_slice-then-is_seeking.ensures) w.in_ok-add-2.ensures.place
            w.in_ok-sources.ensures)
        | else-is_seeking w ↦ subst (IsSide edges) (sym w.back-is) c.loop-alloc.invariant.back
      ];
      end = elim c.if-is_seeking.branch [
        | then-is_seeking+in_ok-sources+in_ok-add-2 w ↦ ap (λ (s : Side). s.end) w.back-is ∙ w.in_ok-add-2.ensures.end ∙ c.loop-alloc.invariant.end
        | else-is_seeking w ↦ ap (λ (s : Side). s.end) w.back-is ∙ c.loop-alloc.invariant.end
      ];
    }

pub returns-clause-is_led : goal.returns-clause-is_led
returns-clause-is_led g c =
    let edges = edges_of (g.G.Graph.demands c.args.graph.now) in
    let ahead = c.loop-alloc.ahead in
    let back = c.loop-alloc.back in
    c.have_met.ensures
    ∙ met-leads edges ahead.end back.end ahead.found back.found ahead.place back.place c.loop-alloc.invariant.ahead c.loop-alloc.invariant.back
    (sym c.are_apart.ensures ∙ c.loop-alloc-test.false)
    ∙ ap (λ v. leads_to_any edges (back.end ∷ []) v) c.loop-alloc.invariant.begun ∙ ap (λ v. leads_to_any edges (v ∷ []) c.args.from) c.loop-alloc.invariant.end
    ∙ ap (λ v. leads_to_any edges (v ∷ []) c.args.from) c.in_ok-search_near.ensures.end

pub returns-clause-back : goal.returns-clause-back
returns-clause-back g c = c.loop-alloc.invariant.back
