use Rattle.every_reading.proofs.Replays as proof
use Rattle.every_reading.proofs.build_laws.some_replay.Goals as goal

pub returns : goal.returns
returns c = proof.some_replay
