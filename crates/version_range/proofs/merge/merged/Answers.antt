use Rattle.version_range.proofs.RisingEnds.{merges_turn, first_left, second_left}
use Rattle.version_range.proofs.merge.merged.Goals as goal

pub take_least-requires-clause-first_rises : goal.take_least-requires-clause-first_rises
take_least-requires-clause-first_rises c = first_left c.loop-least.invariant

pub take_least-requires-clause-second_rises : goal.take_least-requires-clause-second_rises
take_least-requires-clause-second_rises c = second_left c.loop-least.invariant

pub loop-least-preserved : goal.loop-least-preserved
loop-least-preserved c =
    let l = c.loop-least in
    let s = c.in-Some.least in
    merges_turn c.args.joint c.args.first.items c.args.second.items l.ends l.in_first l.in_second l.rest_first.items l.rest_second.items s.end s.from_first s.from_second c.take_least.new.first.items c.take_least.new.second.items c.push_if.new.ends c.flip-in_first.result c.flip-in_second.result c.join-was.result c.join-now.result c.flip.result l.invariant c.in-Some.ensures.some c.join-was.ensures c.flip-in_first.ensures c.flip-in_second.ensures c.join-now.ensures c.flip.ensures c.in_ok-push_if.ensures
