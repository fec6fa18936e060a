use Rattle.std.proofs.Common.{List, [], ◌∷◌, ◌++◌, length, take, sym, subst, ap, ◌∙◌, arith, take_all}
use Rattle.std.proofs.lemmas.List.{map-append, take_more}
use Rattle.plan_jobs.proofs.NextStates.{after_count}
use Rattle.replay_text.specs.Replay.{IsCounted, asked}
use Rattle.replay_text.proofs.Count.{told_more}
use Rattle.replay_text.proofs.print.replay_text.Goals as goal

pub loop-event-preserved : goal.loop-event-preserved
loop-event-preserved c =
    let inv = c.loop-event.invariant in
    let t = c.in_ok-push_event.ensures c.args.slots inv.told inv.after in
    record {
      told = inv.told ++ t.now ∷ [];
      after = t.after;
      same = map-append asked inv.told (t.now ∷ []) ∙ ap (λ l. l ++ asked t.now ∷ []) inv.same ∙ ap (λ e. take c.loop-event.event-index c.args.events.now ++ e ∷ []) t.same
          ∙ sym (take_more c.args.events.now c.loop-event.event-index _ c.loop-event-test.true);
      text = told_more c.args.nodes.now inv.told t.now c.loop-event.text c.push_event.new.text inv.text t.text;
    }

pub push_counts-requires : goal.push_counts-requires
push_counts-requires c =
    let inv = c.loop-event.invariant in
    let e = after_count c.args.nodes.now c.args.slots inv.told c.loop-event.jobs inv.after in
    omega (arith, e)

pub returns : goal.returns
returns c =
    let inv = c.loop-event.invariant in
    record {
      told = inv.told;
      history = inv.after.history;
      same = inv.same ∙ take_all c.loop-event.event-index c.args.events.now c.loop-event-test.false;
      counted = subst (λ (l : List _). IsCounted c.args.nodes.now inv.told (length c.args.nodes.now) l c.push_counts.new.text) inv.text (c.in_ok-push_counts.ensures c.args.nodes.now c.args.slots inv.told inv.after);
    }
