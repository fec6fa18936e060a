use Rattle.std.proofs.Common.{sym, ap, ◌∙◌, subst, arith}
use Rattle.std.proofs.lemmas.List.{get_or_default}
use Rattle.goal_links.specs.declared.ring.RingNode.{RingNode}
use Rattle.goal_links.specs.Ring.{ring_of, no_node}
use Rattle.goal_links.specs.Row.{Line, StandsIn, has_node, without_node}
use Rattle.goal_links.proofs.Rows.{linked-within, prev-stands}
use Rattle.goal_links.proofs.row.LinkRow.prev.Goals as goal

pub index-requires : goal.index-requires
index-requires c =
    let ns = ring_of c.self.inside.ends c.self.inside.nodes.items in
    let in' = ap (λ (v : Line). has_node v.linked c.args.node) c.self.view_is ∙ c.requires in
    let within = linked-within c.self.inside.ends c.self.inside.nodes.items ns c.self.invariant c.args.node in' in
    omega (arith, within, c.self.inside.nodes.ok)

pub returns : goal.returns
returns c =
    let ns = ring_of c.self.inside.ends c.self.inside.nodes.items in
    let in' = ap (λ (v : Line). has_node v.linked c.args.node) c.self.view_is ∙ c.requires in
    let within = linked-within c.self.inside.ends c.self.inside.nodes.items ns c.self.invariant c.args.node in' in
    let is = ap (λ (n : RingNode). n.prev) (c.index.ensures ∙ get_or_default c.self.inside.nodes.items c.args.node c.index.result.now no_node within) in
    subst (λ l. StandsIn (without_node c.args.node l) c.index.result.now.prev) (ap (λ (v : Line). v.linked) c.self.view_is)
    (subst (StandsIn (without_node c.args.node ns)) (sym is) (prev-stands c.self.inside.ends c.self.inside.nodes.items c.self.invariant c.args.node in'))
