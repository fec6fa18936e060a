use Rattle.build_order.proofs.Keys.{added}
use Rattle.build_order.proofs.ready.add.Goals as goal

pub returns : goal.returns
returns c = added c.args.ready.now c.insert.new.self c.args.node c.in_ok-insert.ensures.updates
