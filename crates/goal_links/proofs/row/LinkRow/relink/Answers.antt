use Rattle.std.proofs.Common.{None, ap, ◌∙◌}
use Rattle.std.proofs.Math.ListN.{set}
use Rattle.std.specs.List.{slice_get}
use Rattle.goal_links.specs.Row.{Line}
use Rattle.goal_links.proofs.Rows.{gap-kept, returned-node, returned-prev, returned-next, returned-row}
use Rattle.goal_links.proofs.row.LinkRow.relink.Goals as goal

pub relink-requires-clause-node : goal.relink-requires-clause-node
relink-requires-clause-node c =
    let gap = gap-kept _ c.args.self.now c.self.view_is c.args.node c.requires in
    returned-node c.self.inside.ends c.self.inside.nodes.items c.self.invariant c.args.node c.requires.2.0 c.requires.2.1 gap.0 gap.1 c.deref_mut.result.now c.deref_mut.ensures.value

pub relink-requires-clause-prev : goal.relink-requires-clause-prev
relink-requires-clause-prev c =
    let gap = gap-kept _ c.args.self.now c.self.view_is c.args.node c.requires in
    returned-prev c.self.inside.ends c.self.inside.nodes.items c.self.invariant c.args.node c.requires.2.0 c.requires.2.1 gap.0 gap.1 c.deref_mut.result.now c.deref_mut.ensures.value

pub relink-requires-clause-next : goal.relink-requires-clause-next
relink-requires-clause-next c =
    let gap = gap-kept _ c.args.self.now c.self.view_is c.args.node c.requires in
    returned-next c.self.inside.ends c.self.inside.nodes.items c.self.invariant c.args.node c.requires.2.0 c.requires.2.1 gap.0 gap.1 c.deref_mut.result.now c.deref_mut.ensures.value

pub invariant_of-self : goal.invariant_of-self
invariant_of-self c =
    let gap = gap-kept _ c.args.self.now c.self.view_is c.args.node c.requires in
    (returned-row c.self.inside.ends c.self.inside.nodes.items c.self.invariant c.args.node c.requires.2.0 c.requires.2.1 gap.0 gap.1 c.deref_mut.result.now c.deref_mut.ensures.value
    c.relink.new.ends c.relink.new.nodes c.self.inside.nodes.items c.self.inside.nodes.len c.relink.ensures.next c.relink.ensures.prev c.relink.auto.nodes c.self.inside.nodes.ok.0).0

pub returns-clause-linked : goal.returns-clause-linked
returns-clause-linked c front rest gap =
    (returned-row c.self.inside.ends c.self.inside.nodes.items c.self.invariant c.args.node front rest (ap (λ (v : Line). v.linked) c.self.view_is ∙ gap.0)
    (ap (λ (v : Line). slice_get v.kept c.args.node) c.self.view_is ∙ gap.1) c.deref_mut.result.now c.deref_mut.ensures.value
    c.relink.new.ends c.relink.new.nodes c.self.inside.nodes.items c.self.inside.nodes.len
    c.relink.ensures.next c.relink.ensures.prev c.relink.auto.nodes c.self.inside.nodes.ok.0).1

pub returns-clause-kept : goal.returns-clause-kept
returns-clause-kept c =
    let gap = gap-kept _ c.args.self.now c.self.view_is c.args.node c.requires in
    (returned-row c.self.inside.ends c.self.inside.nodes.items c.self.invariant c.args.node c.requires.2.0 c.requires.2.1 gap.0 gap.1 c.deref_mut.result.now c.deref_mut.ensures.value
    c.relink.new.ends c.relink.new.nodes c.self.inside.nodes.items c.self.inside.nodes.len c.relink.ensures.next c.relink.ensures.prev c.relink.auto.nodes c.self.inside.nodes.ok.0).2
    ∙ ap (λ (v : Line). set v.kept c.args.node None) c.self.view_is
