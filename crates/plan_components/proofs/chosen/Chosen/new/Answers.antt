use Rattle.plan_components.proofs.Apart.{packages-apart}
use Rattle.plan_components.proofs.chosen.Chosen.new.Goals as goal

pub invariant_of-result : goal.invariant_of-result
invariant_of-result c = record { apart = λ p i. packages-apart c.args.env.now c.args.index.now c.args.index.now.packages p i c.requires.packages }
