use Rattle.std.proofs.Common.{refl}
use Rattle.choice_stack.proofs.growth.make_ready.Goals as goal

pub returns-in_err-active-clause-kept : goal.returns-in_err-active-clause-kept
returns-in_err-active-clause-kept c n v sides test k = c.ready_goals-2.ensures.kept n v sides refl (c.ready_goals.ensures.kept n v sides refl k)

pub returns-clause-kept : goal.returns-clause-kept
returns-clause-kept c n v sides test k = c.ready_goals-2.ensures.kept n v sides refl (c.ready_goals.ensures.kept n v sides refl k)
