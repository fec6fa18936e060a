use Rattle.frozen_choices.proofs.Spared.{bars-none}
use Rattle.frozen_choices.proofs.laws.frozen_bars_none.Goals as goal

pub returns : goal.returns
returns c = bars-none
