use Rattle.std.proofs.Common.{ap, ◌∙◌, arith}
use Rattle.common_laws.specs.Small.{some_at}
use Rattle.choice_problem.specs.Conflict.{edges_of}
use Rattle.demand_cycles.specs.VarSet.{with_keys}
use Rattle.demand_cycles.proofs.Sides.{gone-on}
use Rattle.demand_cycles.proofs.cycles.search_near.Goals as goal

pub loop-alloc-smaller : goal.loop-alloc-smaller
loop-alloc-smaller g c = omega (arith, c.is_near.ensures.goes_on c.loop-alloc-test.true, c.is_near.ensures.few c.loop-alloc-test.true, c.in_ok-add.ensures.place)

pub loop-alloc-preserved : goal.loop-alloc-preserved
loop-alloc-preserved g c =
    let back = c.loop-alloc.back in
    record {
      back =
          gone-on (edges_of (g.G.Graph.demands c.args.graph.now)) back c.add.new.self c.next.result c.in-Some.sources c.loop-alloc.invariant.back c.next.ensures
          c.in_ok-add.ensures.end (c.in_ok-add.ensures.found ∙ ap (with_keys back.found) c.as_slice.ensures) c.in_ok-add.ensures.place (some_at _ _ _ c.in-Some.is c.in_ok-sources.ensures);
      end = c.in_ok-add.ensures.end ∙ c.loop-alloc.invariant.end;
    }
