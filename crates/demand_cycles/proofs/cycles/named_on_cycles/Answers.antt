use Rattle.std.proofs.Common.{◌≡◌, ◌+◌, ◌++◌, drop, sym, ap, ◌∙◌, arith}
use Rattle.std.specs.Prelude.{flat_map, filter}
use Rattle.choice_problem.specs.Conflict.{edges_of, named_by, lies_on_cycle, circular}
use Rattle.goal_links.proofs.NamedItems.{get-contains}
use Rattle.demand_cycles.specs.Ring.{closes_from}
use Rattle.demand_cycles.proofs.Rings.{kept-one, left-one, kept-all}
use Rattle.demand_cycles.proofs.cycles.named_on_cycles.Goals as goal
use Rattle.demand_cycles.proofs.cycles.named_on_cycles.Goals.{then-closes_from+in_ok-push_named, else-closes_from}

pub loop-place-init : goal.loop-place-init
unfolding circular
loop-place-init g c =
    let demands = g.G.Graph.demands c.args.graph.now in
    ap (λ l. l ++ flat_map named_by (filter (lies_on_cycle (edges_of demands)) demands)) c.new-named.ensures.items

pub loop-place-preserved : goal.loop-place-preserved
loop-place-preserved g c =
    let demands = g.G.Graph.demands c.args.graph.now in
    let test = lies_on_cycle (edges_of demands) in
    let d = c.demand-demand.result.now in
    let place = c.loop-place.place in
    let items = c.loop-place.named.items in
    let rest = flat_map named_by (filter test (drop (place + 1) demands)) in
    let told : c.closes_from.result ≡ test d =
    c.closes_from.ensures ∙ ap (λ owner. closes_from c.args.rings.now owner d.target) c.owner_of.ensures
    ∙ c.requires d (get-contains demands place d c.demand-demand.ensures) in
    (elim c.if-closes_from.branch [
      | then-closes_from+in_ok-push_named w ↦
          let pushed : c.if-closes_from.named.items ≡ items ++ named_by d = ap (λ v. v.items) w.named-is ∙ w.in_ok-push_named.ensures in
          ap (λ l. l ++ rest) pushed ∙ kept-one test named_by demands place d items c.demand-demand.ensures (sym told ∙ w.if-closes_from.true)
      | else-closes_from w ↦
          ap (λ v. v.items ++ rest) w.named-is ∙ left-one test named_by demands place d items c.demand-demand.ensures (sym told ∙ w.if-closes_from.false)
    ]) ∙ c.loop-place.invariant

pub returns : goal.returns
returns g c =
    let demands = g.G.Graph.demands c.args.graph.now in
    sym (kept-all (lies_on_cycle (edges_of demands)) named_by demands c.loop-place.place c.loop-place.named.items (omega (arith, c.loop-place-test.false, c.count-count.ensures)))
    ∙ c.loop-place.invariant
