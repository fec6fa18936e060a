use Rattle.std.proofs.Common.{length, ap, arith}
use Rattle.std.proofs.lemmas.List.{length_push}
use Rattle.component_cycle.proofs.Reaches.{to-edge}
use Rattle.component_cycle.proofs.Joins.{looked-sound, looked-leads, looked-edge}
use Rattle.component_cycle.proofs.search.Search.step.Goals as goal

pub look_at-requires-clause-sound : goal.look_at-requires-clause-sound
look_at-requires-clause-sound c =
    let longer = ap length c.in-Some.ensures in
    looked-sound c.args.needs.now c.args.self.now c.requires.sound c.requires.mark.0 c.args.mark c.requires.mark.1 c.pop.new.self c.in-Some.node c.in-Some.ensures (omega (arith, longer, length_push c.pop.new.self c.in-Some.node))

pub look_at-requires-clause-leads : goal.look_at-requires-clause-leads
look_at-requires-clause-leads c =
    let longer = ap length c.in-Some.ensures in
    looked-leads c.args.needs.now c.args.self.now c.requires.sound c.requires.mark.0 c.args.mark c.requires.mark.1 c.pop.new.self c.in-Some.node c.in-Some.ensures (omega (arith, longer, length_push c.pop.new.self c.in-Some.node))

pub look_at-requires-clause-node : goal.look_at-requires-clause-node
look_at-requires-clause-node c =
    let longer = ap length c.in-Some.ensures in
    let edge = looked-edge c.args.needs.now c.args.self.now c.requires.sound c.requires.mark.0 c.args.mark c.requires.mark.1 c.pop.new.self c.in-Some.node c.in-Some.ensures (omega (arith, longer, length_push c.pop.new.self c.in-Some.node)) in
    to-edge c.args.needs.now c.requires.graph edge.0 c.in-Some.node edge.1
