use Rattle.std.proofs.Common.{◌≡◌, ◌≢◌, List, length, Some, get_or, sym, ap, ◌∙◌, subst, arith}
use Rattle.std.proofs.lemmas.List.{length_push}
use Rattle.std.proofs.lemmas.Result.{on_ok_weaker}
use Rattle.component_cycle.specs.declared.search.NodeState.{NodeState}
use Rattle.component_cycle.specs.declared.search.NodeState.TheVariants.{Unseen, Finished}
use Rattle.component_cycle.specs.Search.{state, IsSound, DoesNotRaise, costs}
use Rattle.component_cycle.proofs.Enters.{entered-follows}
use Rattle.component_cycle.proofs.Joins.{joined-sound, joined-all, joined-done, popped-is, settled-sound, with_marks}
use Rattle.component_cycle.proofs.search.Search.look_at.Goals as goal

pub loop-self-preserved : goal.loop-self-preserved
loop-self-preserved c =
    let inv = c.loop-self.invariant in
    let last = c.begins_behind.ensures.behind c.loop-self-test.true in
    let front = last.1.0 in
    let is = last.1.1 in
    let popped : c.pop.new.self ≡ front = popped-is c.pop.result c.loop-self.self.marks c.pop.new.self front last.0 c.pop.ensures is in
    let shorter = ap length is ∙ length_push front last.0 in
    record {
      sound = subst (λ ms. IsSound c.args.needs.now (with_marks c.loop-self.self ms) (Some c.args.node)) (sym popped)
          (joined-sound c.args.needs.now c.loop-self.self c.args.node c.in-OnPath.place inv.sound inv.leads inv.here front last.0 is last.2);
      leads = inv.leads;
      here = inv.here;
      states = inv.states;
      waiting = inv.waiting;
      marks = omega (arith, inv.marks, ap length popped, shorter);
    }

pub returns-after-loop-self : goal.returns-after-loop-self
returns-after-loop-self c =
    let inv = c.loop-self.invariant in
    let s = c.loop-self.self in
    let needs = c.args.needs.now in
    let low = joined-all needs s c.args.node c.in-OnPath.place inv.sound inv.leads inv.here (c.begins_behind.ensures.not_behind c.loop-self-test.false) in
    record {
      sound = joined-done needs s c.args.node c.in-OnPath.place inv.sound inv.leads inv.here low;
      seen = λ v ne. subst (λ (ss : List NodeState). get_or ss v Unseen ≢ Unseen) (sym inv.states) ne;
      less = let same = ap (costs needs) inv.states in let waits = ap length inv.waiting in omega (arith, same, waits, inv.marks);
    }

pub returns-in-Unseen : goal.returns-in-Unseen
returns-in-Unseen c =
    let here : state c.args.self.now c.args.node ≡ Unseen = sym (ap (λ (ss : List NodeState). get_or ss c.args.node Unseen) c.as_slice.ensures) ∙ c.in-Unseen.is in
    on_ok_weaker c.enter.result (λ e. subst (λ t. DoesNotRaise c.args.needs.now c.args.self.now t) (sym e)
    (entered-follows c.args.needs.now c.args.self.now c.args.node c.requires.sound here c.requires.node c.requires.leads)) c.enter.ensures

pub returns-in-Finished : goal.returns-in-Finished
returns-in-Finished c =
    let here : state c.args.self.now c.args.node ≡ Finished c.in-Finished.field-0 = sym (ap (λ (ss : List NodeState). get_or ss c.args.node Unseen) c.as_slice.ensures) ∙ c.in-Finished.is in
    record {
      sound = settled-sound c.args.needs.now c.args.self.now c.args.node c.requires.sound c.in-Finished.field-0 here;
      seen = λ v ne. ne;
      less = omega arith;
    }
