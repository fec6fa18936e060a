use Rattle.std.proofs.Common.{arith}
use Rattle.std.proofs.lemmas.Grind.{common_steps}
use Rattle.flatten.proofs.FirstBeyond.{none_among, some_among}
use Rattle.flatten.proofs.demands.demands_of.Goals as goal

pub returns-in_err-push_component-clause-refused :
    goal.returns-in_err-push_component-clause-refused
returns-in_err-push_component-clause-refused c = grind (arith, common_steps, some_among)

pub loop-component-preserved : goal.loop-component-preserved
loop-component-preserved c = grind (arith, common_steps, none_among)
