use Rattle.every_output.proofs.Outputs as proof
use Rattle.every_output.proofs.laws.the_answer.Goals as goal

pub returns : goal.returns
returns c = proof.the_answer c.some_task.ensures c.some_finding.ensures c.some_plan.ensures c.some_event_list.ensures c.some_replay.ensures c.one_answer.ensures
