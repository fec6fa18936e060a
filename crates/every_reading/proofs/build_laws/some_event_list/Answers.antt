use Rattle.every_reading.proofs.Events as proof
use Rattle.every_reading.proofs.build_laws.some_event_list.Goals as goal

pub returns : goal.returns
returns c = proof.some_event_list
