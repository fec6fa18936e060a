use Rattle.std.proofs.Common.{◌≡◌, List, map, take}
use Rattle.plan_jobs.specs.Events.{Event}
use Rattle.plan_jobs.specs.Board.{AreAfter}
use Rattle.replay_text.specs.Replay.{asked, history_text}
use Rattle.replay_text.proofs.print.replay_text.Given as goal

abbrev pub invariant-loop-event : goal.invariant-loop-event
invariant-loop-event l =
    record {
      told : List Event;
      after : AreAfter l.nodes l.slots told l.jobs;
      same : map asked told ≡ take l.event-index l.events;
      text : l.text ≡ history_text l.nodes told;
    }
