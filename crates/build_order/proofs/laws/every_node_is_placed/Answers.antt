use Rattle.build_order.proofs.Walk.{all_placed}
use Rattle.build_order.proofs.laws.every_node_is_placed.Goals as goal

pub returns : goal.returns
returns c = λ needs order graph none b u l. all_placed needs order graph b none u l
