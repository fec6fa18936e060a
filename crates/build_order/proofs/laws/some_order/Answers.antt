use Rattle.build_order.proofs.SomeOrder as proof
use Rattle.build_order.proofs.laws.some_order.Goals as goal

pub returns : goal.returns
returns c = proof.some_order
