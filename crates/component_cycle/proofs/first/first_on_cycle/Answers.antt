use Rattle.std.proofs.Common.{arith}
use Rattle.component_cycle.proofs.Ends.{first-is}
use Rattle.component_cycle.proofs.first.first_on_cycle.Goals as goal

pub returns : goal.returns
returns c =
    let inv = c.loop-root.invariant in
    first-is c.args.needs.now c.loop-root.search inv.sound inv.idle (λ v l. inv.seen v (omega (arith, l, c.loop-root-test.false))) c.first_on_cycle.result c.first_on_cycle.ensures
