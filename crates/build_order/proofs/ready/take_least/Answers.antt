use Rattle.build_order.proofs.Keys.{takes}
use Rattle.build_order.proofs.ready.take_least.Goals as goal

pub returns : goal.returns
returns c = takes c.pop_first.result c.args.ready.now.keys c.pop_first.new.self.keys c.pop_first.ensures.variant c.pop_first.ensures.removal c.pop_first.ensures.all_above
