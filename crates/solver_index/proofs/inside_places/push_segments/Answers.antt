use Rattle.std.proofs.Common.{ℕ, ◌≤◌, ◌++◌, get_or, ap, ◌∙◌, arith}
use Rattle.std.specs.List.{filter}
use Rattle.std.proofs.lemmas.List.Elements.{Contains-get_or}
use Rattle.version_range.specs.Cuts.{inside}
use Rattle.solver_index.specs.Blocks.{version_at}
use Rattle.solver_index.specs.Places.{between}
use Rattle.solver_index.proofs.Segments.{free-end, free-segment, segment-empty, segments-joined}
use Rattle.solver_index.proofs.inside_places.push_segments.Goals as goal
use Rattle.std.proofs.lemmas.Result.{on_ok_weaker}

pub loop-bound-init : goal.loop-bound-init
loop-bound-init c =
    let test = λ (i : ℕ). inside c.args.cuts.now (version_at c.args.entries.now i) in
    record {
      found = segment-empty test c.args.found.now c.args.from c.args.from (omega arith);
      low = omega arith;
      high = c.requires.low;
      earlier = λ k h. absurd (omega (arith, h));
      later = λ k h below. (c.requires.within (get_or c.args.bounds.now k 0) (Contains-get_or c.args.bounds.now k 0 below)).0;
    }

pub push_segment-requires-clause-high : goal.push_segment-requires-clause-high
push_segment-requires-clause-high c =
    let within = c.requires.within (get_or c.args.bounds.now c.loop-bound.bound-index 0) (Contains-get_or c.args.bounds.now c.loop-bound.bound-index 0 c.loop-bound-test.true) in
    omega (arith, within.1, c.requires.high)

pub push_segment-requires-clause-uniform : goal.push_segment-requires-clause-uniform
push_segment-requires-clause-uniform c = λ i after upto.
    let bounds = c.args.bounds.now in
    let index = c.loop-bound.bound-index in
    let inv = c.loop-bound.invariant in
    let within = c.requires.within (get_or bounds index 0) (Contains-get_or bounds index 0 c.loop-bound-test.true) in
    c.requires.uniform c.loop-bound.first i inv.low after (omega (arith, upto, within.1)) (free-segment bounds index c.loop-bound.first i c.requires.rising c.loop-bound-test.true inv.earlier upto)

pub loop-bound-preserved : goal.loop-bound-preserved
loop-bound-preserved c =
    let bounds = c.args.bounds.now in
    let index = c.loop-bound.bound-index in
    let first = c.loop-bound.first in
    let bound = get_or bounds index 0 in
    let inv = c.loop-bound.invariant in
    let test = λ (i : ℕ). inside c.args.cuts.now (version_at c.args.entries.now i) in
    let within = c.requires.within bound (Contains-get_or bounds index 0 c.loop-bound-test.true) in
    let up : first ≤ bound = inv.later index (omega arith) c.loop-bound-test.true in
    record {
      found = c.in_ok-push_segment.ensures ∙ ap (λ l. l ++ filter test (between first bound)) inv.found ∙ segments-joined test c.args.found.now c.args.from first bound inv.low up;
      low = within.0;
      high = within.1;
      earlier = λ k h. c.requires.rising k index 0 (omega (arith, h)) c.loop-bound-test.true;
      later = λ k h below. c.requires.rising index k 0 (omega (arith, h)) below;
    }

pub push_segment-requires-2-clause-uniform : goal.push_segment-requires-2-clause-uniform
push_segment-requires-2-clause-uniform c = λ i after upto.
    let inv = c.loop-bound.invariant in
    let bounds = c.args.bounds.now in
    c.requires.uniform c.loop-bound.first i inv.low after upto (free-end bounds c.loop-bound.first i (λ k below. inv.earlier k (omega (arith, below, c.loop-bound-test.false))))

pub returns : goal.returns
returns c =
    let first = c.loop-bound.first in
    let inv = c.loop-bound.invariant in
    let test = λ (i : ℕ). inside c.args.cuts.now (version_at c.args.entries.now i) in
    on_ok_weaker c.push_segment-2.result (λ pushed.
    pushed ∙ ap (λ l. l ++ filter test (between first c.args.to)) inv.found ∙ segments-joined test c.args.found.now c.args.from first c.args.to inv.low inv.high) c.push_segment-2.ensures
