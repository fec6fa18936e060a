use Rattle.std.proofs.Common.{◌≡◌, ◌+◌, ◌++◌, drop, sym, ap, ◌∙◌, arith}
use Rattle.std.specs.Prelude.{option_to_list}
use Rattle.choice_problem.specs.declared.problem.Demand.{Demand}
use Rattle.choice_problem.specs.Conflict.{edges_of, lies_on_cycle}
use Rattle.demand_cycles.specs.Cycles.{owner_of, owners_on_cycles}
use Rattle.goal_links.proofs.NamedItems.{get-contains}
use Rattle.demand_cycles.proofs.Rings.{kept-one, left-one, kept-all}
use Rattle.demand_cycles.proofs.cycles.new_owners.Goals as goal
use Rattle.demand_cycles.proofs.cycles.new_owners.Goals.{then-branch+in_ok-push_owner, else-branch}

pub loop-place-init : goal.loop-place-init
loop-place-init g c =
    let demands = g.G.Graph.demands c.args.graph.now in
    let rest = owners_on_cycles (edges_of demands) (drop c.args.before demands) in
    record { owners = ap (λ l. l ++ rest) c.new-owners.ensures.items; back = c.new-back.ensures.begun (edges_of demands) }

pub is_on_cycle-requires-clause-listed : goal.is_on_cycle-requires-clause-listed
is_on_cycle-requires-clause-listed g c = get-contains (g.G.Graph.demands c.args.graph.now) c.loop-place.place c.demand-demand.result.now c.demand-demand.ensures

pub loop-place-preserved : goal.loop-place-preserved
loop-place-preserved g c =
    let demands = g.G.Graph.demands c.args.graph.now in
    let test = lies_on_cycle (edges_of demands) in
    let owners = λ (d : Demand). option_to_list (owner_of d) in
    let d = c.demand-demand.result.now in
    let items = c.loop-place.owners.items in
    let rest = owners_on_cycles (edges_of demands) (drop (c.loop-place.place + 1) demands) in
    record {
      owners = (elim c.if-branch.branch [
        | then-branch+in_ok-push_owner w ↦
            let pushed : c.if-branch.owners.items ≡ items ++ owners d = ap (λ v. v.items) w.owners-is ∙ w.in_ok-push_owner.ensures in
            ap (λ l. l ++ rest) pushed ∙ kept-one test owners demands c.loop-place.place d items c.demand-demand.ensures (sym c.in_ok-is_on_cycle.ensures.lies ∙ w.if-branch.true)
        | else-branch w ↦
            ap (λ v. v.items ++ rest) w.owners-is
            ∙ left-one test owners demands c.loop-place.place d items c.demand-demand.ensures (sym c.in_ok-is_on_cycle.ensures.lies ∙ w.if-branch.false)
      ]) ∙ c.loop-place.invariant.owners;
      back = c.in_ok-is_on_cycle.ensures.back;
    }

pub returns : goal.returns
returns g c =
    let demands = g.G.Graph.demands c.args.graph.now in
    let owners = λ (d : Demand). option_to_list (owner_of d) in
    sym (kept-all (lies_on_cycle (edges_of demands)) owners demands c.loop-place.place c.loop-place.owners.items (omega (arith, c.loop-place-test.false, c.count-count.ensures)))
    ∙ c.loop-place.invariant.owners
