use Rattle.std.proofs.Common.{◌≤◌, ◌+◌, ℕ, List, inl, inr, ⊎_elim, refl, subst, ◌∙◌, arith}
use Rattle.std.specs.Prelude.{Contains}
use Rattle.std.proofs.lemmas.Bool.{cases_eq}
use Rattle.build_order.specs.Building.{NoNode}
use Rattle.common_laws.specs.Lists.{contains-none}
use Rattle.build_order.proofs.OrderInvariant.{same, begins, settled}
use Rattle.build_order.proofs.building.Building.new.Goals as goal

pub loop-node-init : goal.loop-node-init
loop-node-init c =
    let e = c.in_ok-building.ensures in
    record {
      sound = same c.args.needs.now (λ u. 0 ≤ u) (λ u. 0 ≤ u) _ _ _ _ _ _ _ _ e.order e.placed e.ready e.waiting (λ u l p. p) (begins c.args.needs.now);
      order = e.order;
    }

pub loop-node-preserved : goal.loop-node-preserved
loop-node-preserved c =
    let inv = c.loop-node.invariant in
    let e = c.in_ok-wait_or_ready.ensures in
    let n = c.loop-node.node in
    record {
      sound = settled c.args.needs.now (λ u. n ≤ u) (λ u. n + 1 ≤ u) c.loop-node.building c.wait_or_ready.new.self n 0 c.requires inv.sound
          (record { within = c.loop-node-test.true; unplaced = λ h. contains-none n (subst (λ (o : List ℕ). Contains o n) inv.order h); met = λ k lt l. absurd (omega (arith, lt)) })
          (λ u p. ⊎_elim (λ i. inl i) (λ d. inr (omega (arith, p, d))) (cases_eq u n)) e.order e.placed e.settled;
      order = e.order ∙ inv.order;
    }

pub returns : goal.returns
returns c = same c.args.needs.now (λ u. c.loop-node.node ≤ u) NoNode _ _ _ _ _ _ _ _ refl refl refl refl (λ u l p. absurd (omega (arith, l, p, c.loop-node-test.false))) c.loop-node.invariant.sound
