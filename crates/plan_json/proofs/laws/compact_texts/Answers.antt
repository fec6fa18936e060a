use Rattle.plan_json.proofs.Shapes.{conflict-text, gave-up-text, not-shrunk-text, plan-text, shrunk-text}
use Rattle.plan_json.proofs.laws.compact_texts.Goals as goal

pub returns-clause-plan : goal.returns-clause-plan
returns-clause-plan c = λ index names trail nodes counts. plan-text index names trail nodes counts

pub returns-clause-conflict : goal.returns-clause-conflict
returns-clause-conflict c = λ index names set counts. conflict-text index names set counts

pub returns-clause-shrunk : goal.returns-clause-shrunk
returns-clause-shrunk c = λ index names set maps counts. shrunk-text index names set maps counts

pub returns-clause-not_shrunk : goal.returns-clause-not_shrunk
returns-clause-not_shrunk c = λ index names set spent counts. not-shrunk-text index names set spent counts

pub returns-clause-giving_up : goal.returns-clause-giving_up
returns-clause-giving_up c = λ index counts. gave-up-text index counts
