use Rattle.std.proofs.Common.{◌<◌, length, Some, List, sym, ap, ◌∙◌, subst, eqb, ◌++◌, take, drop}
use Rattle.std.proofs.Math.ListN.{set}
use Rattle.std.specs.List.{slice_get}
use Rattle.goal_links.specs.Beside.{beside}
use Rattle.goal_links.specs.declared.ring.RingNode.{RingNode}
use Rattle.goal_links.specs.Ring.{ring_of, IsWithin, prev_at, next_at}
use Rattle.goal_links.specs.Row.{Line, has_node, without_node, kept_from, unlinked}
use Rattle.goal_links.proofs.Rows.{IsRow, linked-within, sides-within, unlinked-row, row-line, kept-none}
use Rattle.goal_links.proofs.row.LinkRow.unlink.Goals as goal

pub unlink-requires-clause-node : goal.unlink-requires-clause-node
unlink-requires-clause-node c =
    let in' = ap (λ (v : Line). has_node v.linked c.args.node) c.self.view_is ∙ c.requires in
    subst (λ (l : List RingNode). c.args.node < length l) (sym c.deref_mut.ensures.value)
    (linked-within c.self.inside.ends c.self.inside.nodes.items (ring_of c.self.inside.ends c.self.inside.nodes.items) c.self.invariant c.args.node in')

pub unlink-requires-clause-prev : goal.unlink-requires-clause-prev
unlink-requires-clause-prev c =
    let in' = ap (λ (v : Line). has_node v.linked c.args.node) c.self.view_is ∙ c.requires in
    subst (λ (l : List RingNode). IsWithin (length l) (prev_at c.self.inside.ends l (Some c.args.node))) (sym c.deref_mut.ensures.value)
    ((sides-within c.self.inside.ends c.self.inside.nodes.items c.self.invariant c.args.node in').0)

pub unlink-requires-clause-next : goal.unlink-requires-clause-next
unlink-requires-clause-next c =
    let in' = ap (λ (v : Line). has_node v.linked c.args.node) c.self.view_is ∙ c.requires in
    subst (λ (l : List RingNode). IsWithin (length l) (next_at c.self.inside.ends l (Some c.args.node))) (sym c.deref_mut.ensures.value)
    ((sides-within c.self.inside.ends c.self.inside.nodes.items c.self.invariant c.args.node in').1)

-- the row without its last node
after : (c : goal.After-self-1) → IsRow c.unlink.new.ends (take c.self.inside.nodes.len (c.unlink.new.nodes ++ drop (length c.unlink.new.nodes) c.self.inside.nodes.items))
    (without_node c.args.node (ring_of c.self.inside.ends c.self.inside.nodes.items))
    (set (kept_from (ring_of c.self.inside.ends c.self.inside.nodes.items) 0 c.self.inside.nodes.items) c.args.node (Some (beside (eqb c.args.node) (ring_of c.self.inside.ends c.self.inside.nodes.items))))
after c =
    unlinked-row c.self.inside.ends c.unlink.new.ends c.self.inside.nodes.items c.deref_mut.result.now c.unlink.new.nodes c.self.inside.nodes.len c.args.node
    c.deref_mut.ensures.value c.self.invariant (ap (λ (v : Line). has_node v.linked c.args.node) c.self.view_is ∙ c.requires)
    c.unlink.ensures.next c.unlink.ensures.prev c.unlink.auto.nodes c.self.inside.nodes.ok.0

pub invariant_of-self : goal.invariant_of-self
invariant_of-self c = (after c).0

pub returns-clause-kept : goal.returns-clause-kept
returns-clause-kept c =
    ap (λ (v : Line). slice_get v.kept c.args.node) (sym c.self.view_is)
    ∙ kept-none c.self.inside.ends c.self.inside.nodes.items c.self.invariant c.args.node (ap (λ (v : Line). has_node v.linked c.args.node) c.self.view_is ∙ c.requires)

pub returns-clause-unlinked : goal.returns-clause-unlinked
returns-clause-unlinked c =
    row-line c.unlink.new.ends (take c.self.inside.nodes.len (c.unlink.new.nodes ++ drop (length c.unlink.new.nodes) c.self.inside.nodes.items)) _ _ (after c)
    ∙ ap (λ (v : Line). unlinked v c.args.node) c.self.view_is
