use Rattle.std.proofs.Common.{◌<◌, ◌++◌, ◌∷◌, [], ℕ, Bool, not, List, inl, inr, ⊎_elim, get_or, refl, sym, subst, ap, ◌∙◌}
use Rattle.std.specs.Prelude.{Contains, count_by}
use Rattle.std.proofs.lemmas.List.Elements.{Contains-append_left, Contains-push, Contains-push_cases}
use Rattle.build_order.specs.declared.building.Wait.{Wait}
use Rattle.build_order.specs.Building.{IsMetBefore, NoNode}
use Rattle.common_laws.specs.Lists.{contains-none}
use Rattle.build_order.proofs.OrderInvariant.{IsIn, same, settled, marked_keeps, marked_met, less_left}
use Rattle.build_order.proofs.building.Building.place.Goals as goal

pub loop-wait-init : goal.loop-wait-init
loop-wait-init c =
    let e = c.in_ok-waits.ensures in
    let b = c.args.self.now in
    let needs = c.args.needs.now in
    let node = c.args.node in
    let s = c.requires.sound in
    let waits = get_or b.waiting.items node [] in
    record {
      sound = same needs (IsIn waits) (IsIn c.in_ok-waits.waits) _ _ _ _ _ _ _ _ e.order e.placed e.ready e.waiting
          (λ u l p. subst (λ ws. IsIn ws u) (sym e.waits) p) (marked_keeps needs b.order b.placed b.ready.keys b.waiting.items node s c.requires.least c.requires.taken);
      met = λ w h. subst (λ (o : List ℕ). IsMetBefore needs o w.node w.place) (sym e.order)
          (marked_met needs b.order b.placed b.ready.keys b.waiting.items node s c.requires.least c.requires.taken w (subst (λ ws. Contains ws w) e.waits h));
      marks = e.placed;
    }

pub wait_or_ready-requires-clause-node : goal.wait_or_ready-requires-clause-node
wait_or_ready-requires-clause-node c =
    let wait = c.in-Some.wait in
    (c.loop-wait.invariant.met wait (subst (λ ws. Contains ws wait) (sym c.in-Some.ensures) (Contains-push c.pop.new.self wait))).within

pub loop-wait-preserved : goal.loop-wait-preserved
loop-wait-preserved c =
    let inv = c.loop-wait.invariant in
    let e = c.in_ok-wait_or_ready.ensures in
    let wait = c.in-Some.wait in
    let rest = c.pop.new.self in
    let needs = c.args.needs.now in
    let met = λ (w : Wait) (h : Contains (rest ++ wait ∷ []) w). inv.met w (subst (λ ws. Contains ws w) (sym c.in-Some.ensures) h) in
    record {
      sound = settled needs (IsIn c.loop-wait.waits) (IsIn rest) c.loop-wait.self c.wait_or_ready.new.self wait.node wait.place c.requires.graph inv.sound
          (met wait (Contains-push rest wait))
          (λ u p. ⊎_elim (λ o. inr (p.0, o, p.2)) (λ i. inl (sym p.2 ∙ ap (λ (w : Wait). w.node) (sym i)))
          (Contains-push_cases rest wait p.0 (subst (λ ws. Contains ws p.0) c.in-Some.ensures p.1)))
          e.order e.placed e.settled;
      met = λ w h. subst (λ (o : List ℕ). IsMetBefore needs o w.node w.place) (sym e.order) (met w (Contains-append_left rest (wait ∷ []) w h));
      marks = e.placed ∙ inv.marks;
    }

pub returns-clause-sound : goal.returns-clause-sound
returns-clause-sound c =
    same c.args.needs.now (IsIn c.loop-wait.waits) NoNode _ _ _ _ _ _ _ _ refl refl refl refl
    (λ u l p. contains-none p.0 (subst (λ ws. Contains ws p.0) c.in_default.ensures.0 p.1)) c.loop-wait.invariant.sound

pub returns-clause-less : goal.returns-clause-less
returns-clause-less c =
    let s = c.requires.sound in
    let least = c.requires.least.ready in
    let marks = c.args.self.now.placed in
    subst (λ (ms : List Bool). count_by not ms < count_by not marks) (sym c.loop-wait.invariant.marks)
    (less_left marks c.args.node (subst (λ n. c.args.node < n) (sym s.count) least.node) (λ m. least.unplaced ((s.placed c.args.node).0 m)))
