use Rattle.frozen_choices.proofs.Read.{all-plain}
use Rattle.frozen_choices.proofs.laws.frozen_is_plain.Goals as goal

pub returns : goal.returns
returns c = all-plain
