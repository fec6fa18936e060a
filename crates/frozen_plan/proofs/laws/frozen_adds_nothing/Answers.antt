use Rattle.frozen_plan.proofs.Whole.{adds-nothing}
use Rattle.frozen_plan.proofs.laws.frozen_adds_nothing.Goals as goal

pub returns : goal.returns
returns c env index project names orders trail all sound numbers new valid union =
    adds-nothing env index project names orders trail sound numbers new valid all union
