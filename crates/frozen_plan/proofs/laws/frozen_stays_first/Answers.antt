use Rattle.frozen_plan.proofs.Whole.{first-too}
use Rattle.frozen_plan.proofs.laws.frozen_stays_first.Goals as goal

pub returns : goal.returns
returns c env index project names orders trail all sound numbers new union first =
    let valid = first.whole_valid in
    first-too env index project names orders trail sound numbers new valid all union (c.frozen_bars_none.ensures env index project names orders trail sound numbers new valid) first
