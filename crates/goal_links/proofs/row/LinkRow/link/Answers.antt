use Rattle.std.proofs.Common.{◌≡◌, ◌<◌, length, None, ℕ, List, ap, ◌∙◌, arith}
use Rattle.std.proofs.Math.ListN.{set}
use Rattle.goal_links.specs.declared.ring.RingNode.{RingNode}
use Rattle.goal_links.specs.Ring.{ring_of}
use Rattle.goal_links.specs.Row.{Line, has_node, kept_from}
use Rattle.goal_links.proofs.Rows.{kept-length, place-seen, placed-node, placed-prev, placed-next, placed-row, placed-somewhere}
use Rattle.goal_links.proofs.row.LinkRow.link.Goals as goal

node-within : (nodes : List RingNode) (now : Line) (linked : List ℕ) (node : ℕ) → kept_from linked 0 nodes ≡ now.kept → node < length now.kept → node < length nodes
node-within nodes now linked node e h = omega (arith, h, ap length e, kept-length linked 0 nodes)

pub index_mut-requires : goal.index_mut-requires
index_mut-requires c =
    let h = node-within c.self.inside.nodes.items c.args.self.now (ring_of c.self.inside.ends c.self.inside.nodes.items) c.args.node (ap (λ (v : Line). v.kept) c.self.view_is) c.requires.node in
    omega (arith, h, c.self.inside.nodes.ok)

pub relink-requires-clause-node : goal.relink-requires-clause-node
relink-requires-clause-node c =
    let within = node-within c.self.inside.nodes.items c.args.self.now (ring_of c.self.inside.ends c.self.inside.nodes.items) c.args.node (ap (λ (v : Line). v.kept) c.self.view_is) c.requires.node in
    let seen = place-seen _ c.args.self.now c.self.view_is c.args.place c.next-next.result c.requires.place c.next-next.ensures.next in
    placed-node c.self.inside.ends c.self.inside.nodes.items c.self.invariant c.args.place c.next-next.result c.args.node within seen.0 seen.1 c.deref_mut.result.now c.deref_mut.ensures.value

pub relink-requires-clause-prev : goal.relink-requires-clause-prev
relink-requires-clause-prev c =
    let within = node-within c.self.inside.nodes.items c.args.self.now (ring_of c.self.inside.ends c.self.inside.nodes.items) c.args.node (ap (λ (v : Line). v.kept) c.self.view_is) c.requires.node in
    let seen = place-seen _ c.args.self.now c.self.view_is c.args.place c.next-next.result c.requires.place c.next-next.ensures.next in
    placed-prev c.self.inside.ends c.self.inside.nodes.items c.self.invariant c.args.place c.next-next.result c.args.node within seen.0 seen.1 c.deref_mut.result.now c.deref_mut.ensures.value

pub relink-requires-clause-next : goal.relink-requires-clause-next
relink-requires-clause-next c =
    let within = node-within c.self.inside.nodes.items c.args.self.now (ring_of c.self.inside.ends c.self.inside.nodes.items) c.args.node (ap (λ (v : Line). v.kept) c.self.view_is) c.requires.node in
    let seen = place-seen _ c.args.self.now c.self.view_is c.args.place c.next-next.result c.requires.place c.next-next.ensures.next in
    placed-next c.self.inside.ends c.self.inside.nodes.items c.self.invariant c.args.place c.next-next.result c.args.node within seen.0 seen.1 c.deref_mut.result.now c.deref_mut.ensures.value

pub invariant_of-self : goal.invariant_of-self
invariant_of-self c =
    let within = node-within c.self.inside.nodes.items c.args.self.now (ring_of c.self.inside.ends c.self.inside.nodes.items) c.args.node (ap (λ (v : Line). v.kept) c.self.view_is) c.requires.node in
    let seen = place-seen _ c.args.self.now c.self.view_is c.args.place c.next-next.result c.requires.place c.next-next.ensures.next in
    let found = placed-somewhere c.self.inside.ends c.self.inside.nodes.items c.self.invariant c.args.place c.next-next.result c.args.node within seen.0 seen.1 c.deref_mut.result.now c.deref_mut.ensures.value
    c.relink.new.ends c.relink.new.nodes (set c.self.inside.nodes.items c.args.node (record { prev = c.args.place; next = c.next-next.result })) c.self.inside.nodes.len
    (ap (λ (v : Line). has_node v.linked c.args.node) c.self.view_is ∙ c.requires.new) c.relink.ensures.next c.relink.ensures.prev c.relink.auto.nodes c.self.inside.nodes.ok.0 in
    found.2.0

pub returns-clause-linked : goal.returns-clause-linked
returns-clause-linked c front rest gap =
    let within = node-within c.self.inside.nodes.items c.args.self.now (ring_of c.self.inside.ends c.self.inside.nodes.items) c.args.node (ap (λ (v : Line). v.kept) c.self.view_is) c.requires.node in
    let seen = place-seen _ c.args.self.now c.self.view_is c.args.place c.next-next.result c.requires.place c.next-next.ensures.next in
    (placed-row c.self.inside.ends c.self.inside.nodes.items c.self.invariant c.args.place c.next-next.result c.args.node within seen.0 seen.1 c.deref_mut.result.now c.deref_mut.ensures.value
    c.relink.new.ends c.relink.new.nodes (set c.self.inside.nodes.items c.args.node (record { prev = c.args.place; next = c.next-next.result })) c.self.inside.nodes.len
    (ap (λ (v : Line). has_node v.linked c.args.node) c.self.view_is ∙ c.requires.new) c.relink.ensures.next c.relink.ensures.prev c.relink.auto.nodes c.self.inside.nodes.ok.0 front rest (ap (λ (v : Line). v.linked) c.self.view_is ∙ gap.0) gap.1).1

pub returns-clause-kept : goal.returns-clause-kept
returns-clause-kept c =
    let within = node-within c.self.inside.nodes.items c.args.self.now (ring_of c.self.inside.ends c.self.inside.nodes.items) c.args.node (ap (λ (v : Line). v.kept) c.self.view_is) c.requires.node in
    let seen = place-seen _ c.args.self.now c.self.view_is c.args.place c.next-next.result c.requires.place c.next-next.ensures.next in
    let found = placed-somewhere c.self.inside.ends c.self.inside.nodes.items c.self.invariant c.args.place c.next-next.result c.args.node within seen.0 seen.1 c.deref_mut.result.now c.deref_mut.ensures.value
    c.relink.new.ends c.relink.new.nodes (set c.self.inside.nodes.items c.args.node (record { prev = c.args.place; next = c.next-next.result })) c.self.inside.nodes.len
    (ap (λ (v : Line). has_node v.linked c.args.node) c.self.view_is ∙ c.requires.new) c.relink.ensures.next c.relink.ensures.prev c.relink.auto.nodes c.self.inside.nodes.ok.0 in
    found.2.2 ∙ ap (λ (v : Line). set v.kept c.args.node None) c.self.view_is
