use Rattle.std.proofs.Common.{sym}
use Rattle.std.proofs.lemmas.Result.{on_ok_weaker}
use Rattle.plan_jobs.specs.Events.{completes, fails, starts}
use Rattle.replay_text.proofs.print.push_event.Goals as goal

pub returns-in-Start : goal.returns-in-Start
returns-in-Start c =
    on_ok_weaker c.push_start.result
    (λ e slots told a. record { now = starts c.start_next-reply.result; same = sym c.in-Start.is; after = c.start_next-reply.ensures.after c.args.nodes.now slots told a; text = e })
    c.push_start.ensures

pub returns-in-Completed : goal.returns-in-Completed
returns-in-Completed c =
    on_ok_weaker c.push_end.result
    (λ e slots told a. record { now = completes c.in-Completed.place c.completed-reply.result; same = sym c.in-Completed.is; after = c.completed-reply.ensures.after c.args.nodes.now slots told a; text = e })
    c.push_end.ensures

pub returns-in-Failed : goal.returns-in-Failed
returns-in-Failed c =
    on_ok_weaker c.push_end-in-Failed.result
    (λ e slots told a. record { now = fails c.in-Failed.place c.failed-reply.result; same = sym c.in-Failed.is; after = c.failed-reply.ensures.after c.args.nodes.now slots told a; text = e })
    c.push_end-in-Failed.ensures
