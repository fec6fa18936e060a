use Rattle.plan_command.proofs.OneAnswer.{one-answer}
use Rattle.plan_command.proofs.laws.one_answer.Goals as goal

pub returns : goal.returns
returns c = λ words files. one-answer c.one_folder_project.ensures c.one_folder_index.ensures c.one_finding.ensures c.one_plan.ensures c.one_event_list.ensures c.one_replay.ensures words files
