use Rattle.replay_text.proofs.One.{one-replay}
use Rattle.replay_text.proofs.laws.one_replay.Goals as goal

pub returns : goal.returns
returns c = λ nodes slots events a b h k. one-replay nodes slots events a b h k
