use Rattle.replay_text.proofs.One.{one-reading}
use Rattle.replay_text.proofs.laws.one_reading.Goals as goal

pub returns : goal.returns
returns c = λ lines a b h k. one-reading lines a b h k
