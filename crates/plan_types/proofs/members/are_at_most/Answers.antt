use Rattle.plan_types.proofs.Orders.{below_two_at}
use Rattle.plan_types.proofs.members.are_at_most.Goals as goal

pub returns-then-n-a-2 : goal.returns-then-n-a-2
returns-then-n-a-2 c = below_two_at c.args.numbers.now c.args.a c.args.b c.in-len2-up.len_at_least c.if-n-a.false c.if-n-a-2.true
