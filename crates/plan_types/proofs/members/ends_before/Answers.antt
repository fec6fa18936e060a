use Rattle.plan_types.proofs.Orders.{none_below_empty}
use Rattle.plan_types.proofs.members.ends_before.Goals as goal

pub returns-in-empty : goal.returns-in-empty
returns-in-empty c = none_below_empty c.args.numbers.now c.args.x.now c.in-empty.len_below
