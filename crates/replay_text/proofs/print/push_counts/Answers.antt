use Rattle.std.proofs.lemmas.Result.{on_ok_weaker}
use Rattle.replay_text.proofs.Count.{counts_text}
use Rattle.replay_text.proofs.print.push_counts.Goals as goal

pub returns : goal.returns
returns c =
    on_ok_weaker c.push_str.result
    (λ e plan slots told a.
    record {
      completed = c.count_of.result;
      failed = c.count_of-2.result;
      running = c.count_of-3.result;
      waiting = c.count_of-4.result;
      held = c.count_of-5.result;
      are_completed = c.count_of.ensures plan slots told a;
      have_failed = c.count_of-2.ensures plan slots told a;
      run = c.count_of-3.ensures plan slots told a;
      wait = c.count_of-4.ensures plan slots told a;
      are_held = c.count_of-5.ensures plan slots told a;
      text = counts_text c.args.text.now c.push_count.new.text c.push_count-2.new.text c.push_count-3.new.text c.push_count-4.new.text c.push_count-5.new.text c.push_str.new.self
          c.count_of.result c.count_of-2.result c.count_of-3.result c.count_of-4.result c.count_of-5.result
          c.in_ok-push_count.ensures c.in_ok-push_count-2.ensures c.in_ok-push_count-3.ensures c.in_ok-push_count-4.ensures c.in_ok-push_count-5.ensures e;
    })
    c.push_str.ensures.ok
