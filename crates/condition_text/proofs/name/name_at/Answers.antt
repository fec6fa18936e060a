use Rattle.condition_text.proofs.ConditionNames.{name_within, name_is_ascii}
use Rattle.condition_text.proofs.name.name_at.Goals as goal

pub returns-clause-within : goal.returns-clause-within
returns-clause-within c = name_within (λ p. (p.0.now, p.1.now)) c.args.form c.args.text.now c.front_name.result c.front_name.ensures

pub returns-clause-ascii : goal.returns-clause-ascii
returns-clause-ascii c = name_is_ascii (λ p. (p.0.now, p.1.now)) c.args.form c.args.text.now c.front_name.result c.front_name.ensures
