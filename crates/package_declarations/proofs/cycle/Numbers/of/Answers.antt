use Rattle.package_declarations.proofs.Numbering.{tells-step}
use Rattle.package_declarations.proofs.cycle.Numbers.of.Goals as goal

pub loop-number-preserved : goal.loop-number-preserved
loop-number-preserved c =
    let before = c.loop-number.table in
    let after = c.add.new.self in
    tells-step before.names after.names before.numbers.items after.numbers.items c.as_str.result.now c.args.components.now c.loop-number.number c.index-components-number.result
    c.loop-number-test.true c.index-components-number.is c.as_str.ensures c.in_ok-add.ensures.names c.in_ok-add.ensures.numbers c.loop-number.invariant
