use Rattle.std.proofs.Common.{◌∙◌}
use Rattle.std.proofs.lemmas.Result.{IfOk-weaker}
use Rattle.version_range.proofs.Joined.{takes_next, takes_last}
use Rattle.version_range.specs.declared.operator.Operator.TheVariants as operators
use Rattle.version_range.proofs.Operators.{version_compared, version_prefix}
use Rattle.version_range.proofs.cuts.+cuts.Goals as goal

pub Cuts::of-equal-requires : goal.Cuts::of-equal-requires
Cuts::of-equal-requires t c = version_compared c.args.range.now c.in-Equal.x c.requires operators.Equal c.in-Equal.is

pub Cuts::of-prefix-requires : goal.Cuts::of-prefix-requires
Cuts::of-prefix-requires t c = version_prefix c.args.range.now c.in-Prefix.x c.requires c.in-Prefix.is

pub Cuts::of-at_least-requires : goal.Cuts::of-at_least-requires
Cuts::of-at_least-requires t c = version_compared c.args.range.now c.in-AtLeast.x c.requires operators.AtLeast c.in-AtLeast.is

pub Cuts::of-above-requires : goal.Cuts::of-above-requires
Cuts::of-above-requires t c = version_compared c.args.range.now c.in-Above.x c.requires operators.Above c.in-Above.is

pub Cuts::of-at_most-requires : goal.Cuts::of-at_most-requires
Cuts::of-at_most-requires t c = version_compared c.args.range.now c.in-AtMost.x c.requires operators.AtMost c.in-AtMost.is

pub Cuts::of-below-requires : goal.Cuts::of-below-requires
Cuts::of-below-requires t c = version_compared c.args.range.now c.in-Below.x c.requires operators.Below c.in-Below.is

pub Cuts::of-major-requires : goal.Cuts::of-major-requires
Cuts::of-major-requires t c = version_compared c.args.range.now c.in-Major.x c.requires operators.Major c.in-Major.is

pub chain-loop-left-preserved : goal.chain-loop-left-preserved
chain-loop-left-preserved t c =
    takes_next c.args.joint c.args.left.now c.args.right.now c.loop-left.operands c.push-in-Some.new.self c.loop-left.rest.now c.in-Some.left.now c.in-Some.right.now c.in_ok-of-2.field-0 c.loop-left.invariant c.in-Some.ensures c.in_ok-push-2.ensures.ok c.in_ok-of-2.ensures

pub chain-returns : goal.chain-returns
chain-returns t c =
    IfOk-weaker c.combined.result _ _
    (λ cuts h v n. h v ∙ takes_last c.args.joint c.args.left.now c.args.right.now c.loop-left.operands c.push-2.new.self c.loop-left.rest.now c.in_ok-of-3.field-0 c.loop-left.invariant c.in_ok-push-3.ensures.ok c.in_ok-of-3.ensures v n)
    c.combined.ensures
