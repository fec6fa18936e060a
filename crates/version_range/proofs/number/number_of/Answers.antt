use Rattle.std.proofs.Common.{◌<◌, ◌^◌, arith}
use Rattle.version_range.proofs.VersionNumbers.{number_step, number_small, digit_here}
use Rattle.version_range.proofs.number.number_of.Goals as goal

pub loop-b-preserved : goal.loop-b-preserved
loop-b-preserved c =
    let i = c.loop-b.invariant in
    number_step c.args.digits.now c.loop-b.b-index c.loop-b.number c.from.result c.loop-b-test.true c.requires.short c.from.ensures i.0 i.1 i.2

pub overflow_mul-number : goal.overflow_mul-number
overflow_mul-number c =
    let small : c.loop-b.number < 10 ^ 8 = number_small c.loop-b.b-index c.loop-b.number (omega arith) c.loop-b.invariant.1 in
    omega arith

pub overflow_sub-b : goal.overflow_sub-b
overflow_sub-b c = (digit_here c.args.digits.now c.loop-b.b-index c.loop-b-test.true c.loop-b.invariant.2).0

pub overflow_add-number : goal.overflow_add-number
overflow_add-number c =
    let small : c.loop-b.number < 10 ^ 8 = number_small c.loop-b.b-index c.loop-b.number (omega arith) c.loop-b.invariant.1 in
    let digit = digit_here c.args.digits.now c.loop-b.b-index c.loop-b-test.true c.loop-b.invariant.2 in
    omega (arith, digit.0, digit.1)
