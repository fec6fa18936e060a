use Rattle.std.proofs.Common.{[]}
use Rattle.build_order.proofs.OneOrder.{same_rest}
use Rattle.build_order.proofs.laws.one_order.Goals as goal

pub returns : goal.returns
returns c = λ needs a b x y. same_rest needs [] a b x y
