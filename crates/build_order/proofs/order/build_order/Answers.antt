use Rattle.std.proofs.Common.{ℕ, List, refl, sym, subst, ◌∙◌}
use Rattle.build_order.specs.Order.{IsLeastReady, IsBuildOrder}
use Rattle.build_order.specs.Building.{Alone}
use Rattle.build_order.proofs.OrderInvariant.{same, taken_least, taken_keeps, ends}
use Rattle.build_order.proofs.order.build_order.Goals as goal

pub place-requires-clause-sound : goal.place-requires-clause-sound
place-requires-clause-sound c =
    let e = c.in-Some.ensures in
    let b = c.loop-node.building in
    let needs = c.args.needs.now in
    let node = c.in-Some.node in
    same needs (Alone node) (Alone node) _ _ _ _ _ _ _ _ e.order e.placed refl e.waiting (λ u l p. p)
    (taken_keeps needs b.order b.placed b.ready.keys b.waiting.items c.loop-node.invariant c.next.new.self.ready.keys node e.least)

pub place-requires-clause-least : goal.place-requires-clause-least
place-requires-clause-least c =
    let e = c.in-Some.ensures in
    let b = c.loop-node.building in
    subst (λ (o : List ℕ). IsLeastReady c.args.needs.now o c.in-Some.node) (sym e.order)
    (taken_least c.args.needs.now b.order b.placed b.ready.keys b.waiting.items c.loop-node.invariant c.next.new.self.ready.keys c.in-Some.node e.least)

pub returns : goal.returns
returns c =
    let e = c.in_default.ensures in
    let b = c.loop-node.building in
    let needs = c.args.needs.now in
    subst (λ (o : List ℕ). IsBuildOrder needs o) (sym (c.into_order.ensures ∙ e.order))
    (ends needs b.order b.placed b.ready.keys b.waiting.items c.loop-node.invariant e.least)
