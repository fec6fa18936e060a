-- The definitions on small files and builds.
use Rattle.std.specs.Prelude.{◌≡◌, List, [], ◌∷◌, Ok, Err, codes, refl}
use Rattle.std.specs.Fmt.{digits}
use Rattle.std.specs.Str.Lines.{lines}
use Rattle.plan_nodes.specs.declared.node.PlanNode.{PlanNode}
use Rattle.plan_nodes.specs.Line.{no_line}
use Rattle.plan_jobs.specs.declared.job.JobFault.TheVariants.{NoSlot, NotRunning}
use Rattle.plan_jobs.specs.Events.{completes, fails, starts}
use Rattle.replay_text.specs.declared.event.JobEvent.TheVariants.{Start, Completed}
use Rattle.replay_text.specs.Reading.{event_text}
use Rattle.replay_text.specs.Replay.{counts_line, history_text}

-- the last line needs no line feed, and one carriage return before a line feed is dropped
three_lines : lines (codes "start\r\n\ncompleted 12") ≡ codes "start" ∷ [] ∷ codes "completed 12" ∷ []
three_lines = refl

-- places are from 0, and numbers from 1
second_node : event_text (Completed 1) ≡ codes "completed 2"
unfolding digits
second_node = refl

abbrev nodes : List PlanNode
nodes = record no_line { name = codes "a"; id = codes "a-1-0f" } ∷ []

told : history_text nodes (starts (Ok 0) ∷ starts (Err NoSlot) ∷ completes 6 (Err NotRunning) ∷ fails 0 (Ok tt) ∷ [])
    ≡ codes "replay\nstart 1 a-1-0f\nstart NoSlot\ncompleted 7 NotRunning\nfailed 1\n"
unfolding digits
told = refl

counted : counts_line 2 1 0 3 10 ≡ codes "completed 2 failed 1 running 0 waiting 3 held 10\n"
unfolding digits
counted = refl
