use Rattle.std.proofs.Common.{refl}
use Rattle.broken_units.proofs.Marked.{marks_none, marks_one, marks_more, marks_all}
use Rattle.broken_units.proofs.marks.mark_all.Goals as goal

pub loop-node-init : goal.loop-node-init
loop-node-init c = marks_none c.args.led.now c.args.waiting.now

pub loop-node-preserved : goal.loop-node-preserved
loop-node-preserved c =
    let mark = c.in_ok-mark.ensures in
    marks_more c.args.nodes.now c.loop-node.node-index _ c.args.led.now c.mark.new.led c.args.waiting.now c.mark.new.waiting c.loop-node-test.true refl
    (marks_one _ _ _ _ _ _ _ _ c.loop-node.invariant mark.length mark.marked mark.waiting mark.less)

pub returns : goal.returns
returns c =
    let all = marks_all c.args.nodes.now c.loop-node.node-index c.args.led.now c.loop-node.led c.args.waiting.now c.loop-node.waiting c.loop-node-test.false c.loop-node.invariant in
    record { length = all.same; marked = all.marked; waiting = all.waiting; less = all.less }
