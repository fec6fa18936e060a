use Rattle.std.proofs.Common.{◌≡◌, ℕ, List, ◌++◌, ◌-◌, length, Option, Some, None, MatchOption, ◌+◌, false, refl, sym, ap, ◌∙◌}
use Rattle.std.specs.Option.{option_to_list}
use Rattle.goal_links.specs.declared.ring.RingNode.{RingNode}
use Rattle.goal_links.specs.Ring.{IsRing, ring_of}
use Rattle.goal_links.specs.Row.{Line, has_node, kept_from, with_node}
use Rattle.goal_links.proofs.Rows.{row-popped, line-popped, line, none-popped}
use Rattle.goal_links.proofs.row.LinkRow.drop_last.Goals as goal

-- the last node is unlinked, or there is none
popped : (ends : RingNode) (nodes less : List RingNode) (o : Option RingNode) → nodes ≡ less ++ option_to_list o → (o ≡ None → length nodes ≡ 0) → IsRing ends nodes (ring_of ends nodes)
    → has_node (ring_of ends nodes) (length (kept_from (ring_of ends nodes) 0 nodes) - 1) ≡ false
    → IsRing ends less (ring_of ends less) × ((now : Line) → line (ring_of ends nodes) (kept_from (ring_of ends nodes) 0 nodes) ≡ with_node now
    → line (ring_of ends less) (kept_from (ring_of ends less) 0 less) ≡ now)
popped ends nodes less None e none h out = none-popped ends nodes less e (none refl) h
popped ends nodes less (Some m) e none h out = (row-popped ends nodes less m e h out, line-popped ends nodes less m e h out)

none-long : (nodes : List RingNode) (len less : ℕ) (o : Option RingNode) → len ≡ length nodes → MatchOption o ((len ≡ 0) × (less ≡ 0)) (λ x. less + 1 ≡ len) → o ≡ None → length nodes ≡ 0
none-long nodes len less None e h i = sym e ∙ h.0
none-long nodes len less (Some m) e h i = absurd (cc i)

pub invariant_of-self : goal.invariant_of-self
invariant_of-self c =
    (popped c.self.inside.ends c.self.inside.nodes.items c.pop.new.self.items c.pop.result c.pop.ensures.items
    (λ e. none-long c.self.inside.nodes.items c.self.inside.nodes.len c.pop.new.self.len c.pop.result c.self.inside.nodes.ok.0 c.pop.ensures.cases e) c.self.invariant
    (ap (λ (v : Line). has_node v.linked (length v.kept - 1)) c.self.view_is ∙ c.requires)).0

pub returns : goal.returns
returns c now e =
    (popped c.self.inside.ends c.self.inside.nodes.items c.pop.new.self.items c.pop.result c.pop.ensures.items
    (λ e. none-long c.self.inside.nodes.items c.self.inside.nodes.len c.pop.new.self.len c.pop.result c.self.inside.nodes.ok.0 c.pop.ensures.cases e) c.self.invariant
    (ap (λ (v : Line). has_node v.linked (length v.kept - 1)) c.self.view_is ∙ c.requires)).1 now (c.self.view_is ∙ e)
