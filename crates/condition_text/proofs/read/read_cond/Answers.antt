use Rattle.condition_text.proofs.WholeConditions.{answered}
use Rattle.condition_text.proofs.read.read_cond.Goals as goal

pub returns : goal.returns
returns c =
    let a = answered c.args.spec c.args.text.now c.whole.result c.whole.ensures in
    record { condition = a.0; fault = a.1; exactly_conditions = a.2; exactly_faults = a.3 }
