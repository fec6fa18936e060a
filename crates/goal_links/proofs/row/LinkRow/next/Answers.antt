use Rattle.std.proofs.Common.{◌≡◌, Option, Some, None, ℕ, List, ◌∷◌, IfSome, true, sym, ap, ◌∙◌, subst, arith}
use Rattle.std.proofs.lemmas.List.{get_or_default}
use Rattle.goal_links.specs.declared.ring.RingNode.{RingNode}
use Rattle.goal_links.specs.Beside.{first_of}
use Rattle.goal_links.specs.Ring.{IsRing, ring_of, no_node}
use Rattle.goal_links.specs.Row.{Line, StandsIn, has_node, behind}
use Rattle.goal_links.proofs.Rows.{linked-within, linked-next, stands, behind-step}
use Rattle.goal_links.proofs.row.LinkRow.next.Goals as goal

pub index-requires : goal.index-requires
index-requires c =
    let ns = ring_of c.self.inside.ends c.self.inside.nodes.items in
    let in' = stands c.args.place c.in-Some.node ns c.args.self.now.linked (ap (λ (v : Line). v.linked) c.self.view_is) c.requires c.in-Some.is in
    let within = linked-within c.self.inside.ends c.self.inside.nodes.items ns c.self.invariant c.in-Some.node in' in
    omega (arith, within, c.self.inside.nodes.ok)

pub returns-in-Some-clause-next : goal.returns-in-Some-clause-next
returns-in-Some-clause-next c =
    let ns = ring_of c.self.inside.ends c.self.inside.nodes.items in
    let in' = stands c.args.place c.in-Some.node ns c.args.self.now.linked (ap (λ (v : Line). v.linked) c.self.view_is) c.requires c.in-Some.is in
    let within = linked-within c.self.inside.ends c.self.inside.nodes.items ns c.self.invariant c.in-Some.node in' in
    ap (λ (n : RingNode). n.next) (c.index.ensures ∙ get_or_default c.self.inside.nodes.items c.in-Some.node c.index.result.now no_node within)
    ∙ linked-next c.self.inside.ends c.self.inside.nodes.items ns c.self.invariant c.in-Some.node in'
    ∙ ap (λ p. first_of (behind p ns)) (sym c.in-Some.is) ∙ ap (λ (l : List ℕ). first_of (behind c.args.place l)) (ap (λ (v : Line). v.linked) c.self.view_is)

-- the next node, which is linked
follows : (ends : RingNode) (nodes : List RingNode) → IsRing ends nodes (ring_of ends nodes) → (place : Option ℕ) → StandsIn (ring_of ends nodes) place → (o : Option ℕ)
    → o ≡ first_of (behind place (ring_of ends nodes))
    → IfSome o (λ n. behind place (ring_of ends nodes) ≡ n ∷ behind (Some n) (ring_of ends nodes)) × IfSome o (λ n. has_node (ring_of ends nodes) n ≡ true)
follows ends nodes h place k None e = (tt, tt)
follows ends nodes h place k (Some n) e = behind-step ends nodes h place n k e

pub returns-in-Some-clause-rest : goal.returns-in-Some-clause-rest
returns-in-Some-clause-rest c =
    let linked = ap (λ (v : Line). v.linked) c.self.view_is in
    let at = returns-in-Some-clause-next c ∙ ap (λ (l : List ℕ). first_of (behind c.args.place l)) (sym linked) in
    subst (λ (l : List ℕ). IfSome c.index.result.now.next (λ n. behind c.args.place l ≡ n ∷ behind (Some n) l)) linked
    ((follows c.self.inside.ends c.self.inside.nodes.items c.self.invariant c.args.place (subst (λ (l : List ℕ). StandsIn l c.args.place) (sym linked) c.requires) c.index.result.now.next at).0)

pub returns-in-Some-clause-linked : goal.returns-in-Some-clause-linked
returns-in-Some-clause-linked c =
    let linked = ap (λ (v : Line). v.linked) c.self.view_is in
    let at = returns-in-Some-clause-next c ∙ ap (λ (l : List ℕ). first_of (behind c.args.place l)) (sym linked) in
    subst (λ (l : List ℕ). IfSome c.index.result.now.next (λ n. has_node l n ≡ true)) linked
    ((follows c.self.inside.ends c.self.inside.nodes.items c.self.invariant c.args.place (subst (λ (l : List ℕ). StandsIn l c.args.place) (sym linked) c.requires) c.index.result.now.next at).1)
