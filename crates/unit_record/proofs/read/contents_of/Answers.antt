use Rattle.std.proofs.Common.{[]}
use Rattle.unit_record.proofs.Steps.{tell_more, tell_all}
use Rattle.unit_record.proofs.read.contents_of.Goals as goal

pub loop-item-init : goal.loop-item-init
loop-item-init c = ([], tt, c.new-contents.ensures)

pub loop-item-preserved : goal.loop-item-preserved
loop-item-preserved c =
    tell_more c.args.items.now c.loop-item.item-index c.item-item.result c.loop-item.contents c.take_element.new.all c.loop-item-test.true c.item-item.is
    c.loop-item.invariant c.in_ok-take_element.ensures

pub returns : goal.returns
returns c = tell_all c.args.items.now c.loop-item.item-index c.loop-item.contents c.loop-item-test.false c.loop-item.invariant
