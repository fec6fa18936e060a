use Rattle.std.proofs.Common.{◌≡◌, ◌≤◌}
use Rattle.plan_types.specs.declared.condition.Cond.{size-Cond}
use Rattle.conditionals.specs.Value.{value, flag_in, answer}
use Rattle.conditionals.proofs.value.+eval.Given as goal

abbrev pub decreases-eval : goal.decreases-eval
decreases-eval l = size-Cond l.cond.now

-- the value of the rest decides that of the whole, and the rest is no larger than the whole
abbrev pub invariant-loop-left : goal.invariant-loop-left
invariant-loop-left l = (answer l.if_yes l.if_no (value l.env (flag_in l.flags) l.left) ≡ value l.env (flag_in l.flags) l.cond) × (size-Cond l.left ≤ size-Cond l.cond)
