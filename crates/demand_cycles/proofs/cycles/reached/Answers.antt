use Rattle.std.proofs.Common.{◌∷◌, [], subst, sym, arith}
use Rattle.std.specs.Prelude.{if◌then◌else◌}
use Rattle.choice_problem.specs.Conflict.{edges_of}
use Rattle.demand_cycles.specs.Side.{IsPartReached, reversed}
use Rattle.demand_cycles.proofs.Reached.{reached-none, reached-next, reached-all, reached-short}
use Rattle.demand_cycles.proofs.cycles.reached.Goals as goal

pub loop-place-init : goal.loop-place-init
loop-place-init g c =
    let all = edges_of (g.G.Graph.demands c.args.graph.now) in
    let edges = if c.args.ahead then reversed all else all in
    let begun = c.args.begun ∷ [] in
    subst (λ l. IsPartReached edges begun l 0) (sym c.of-found.ensures) (reached-none edges begun)

pub loop-place-smaller : goal.loop-place-smaller
loop-place-smaller g c =
    let all = edges_of (g.G.Graph.demands c.args.graph.now) in
    let short = reached-short (if c.args.ahead then reversed all else all) (c.args.begun ∷ []) c.loop-place.found c.loop-place.place c.loop-place.invariant in
    omega (arith, short, c.loop-place-test.true, c.len.ensures)

pub loop-place-preserved : goal.loop-place-preserved
loop-place-preserved g c =
    let all = edges_of (g.G.Graph.demands c.args.graph.now) in
    reached-next (if c.args.ahead then reversed all else all) (c.args.begun ∷ []) c.loop-place.found c.add_all.new.self c.loop-place.place c.at.result c.as_slice.result.now c.in_ok-next.next
    c.loop-place.invariant c.at.ensures c.in_ok-add_all.ensures c.as_slice.ensures c.in_ok-next.ensures

pub returns : goal.returns
returns g c =
    let all = edges_of (g.G.Graph.demands c.args.graph.now) in
    reached-all (if c.args.ahead then reversed all else all) (c.args.begun ∷ []) c.loop-place.found c.loop-place.place c.loop-place.invariant (omega (arith, c.loop-place-test.false, c.len.ensures))
