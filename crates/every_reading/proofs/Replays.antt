-- Right replies, event by event, and the text of a replay.
use Rattle.std.proofs.Common.{◌≡◌, ℕ, List, [], ◌∷◌, ◌++◌, map, refl, sym, subst, append_assoc, append-nil}
use Rattle.plan_nodes.specs.declared.node.PlanNode.{PlanNode}
use Rattle.plan_jobs.specs.Events.{Event, IsRight}
use Rattle.replay_text.specs.Replay.{IsReplay, asked, counts_line, history_text}
use Rattle.replay_text.specs.declared.event.JobEvent.{JobEvent}
use Rattle.every_reading.proofs.Replies.{some_reply}
use Rattle.every_reading.proofs.Standings.{completed_count, failed_count, held_count, running_count, waiting_count}

module _ (nodes : List PlanNode) (slots : ℕ) where
  -- each event is right after those before it
  abbrev IsRightFrom : List Event → List Event → Type 0
  IsRightFrom before events = (front rest : List Event) (event : Event) → events ≡ front ++ event ∷ rest → IsRight nodes slots (before ++ front) event

  right_first : (before : List Event) (now : Event) (events : List Event) → IsRight nodes slots before now → IsRightFrom (before ++ now ∷ []) events → IsRightFrom before (now ∷ events)
  right_first before now events right more [] rest event e =
      let same : now ≡ event = cc e in
      subst (λ x. IsRight nodes slots (before ++ []) x) same (subst (λ front. IsRight nodes slots front now) (sym (append-nil before)) right)
  right_first before now events right more (x ∷ front) rest event e =
      let same : now ≡ x = cc e in
      let others : events ≡ front ++ event ∷ rest = cc e in
      subst (λ y. IsRight nodes slots (before ++ y ∷ front) event) same
      (subst (λ told. IsRight nodes slots told event) (append_assoc before (now ∷ []) front) (more front rest event others))

  right_none : (before : List Event) → IsRightFrom before []
  right_none before [] rest event e = absurd (cc e)
  right_none before (x ∷ front) rest event e = absurd (cc e)

  replies : (before : List Event) (asks : List JobEvent) → (told : List Event) × (map asked told ≡ asks) × IsRightFrom before told
  replies before [] = ([], refl, right_none before)
  replies before (first ∷ asks) =
      let now = some_reply nodes before slots first in
      let more = replies (before ++ now.0 ∷ []) asks in
      (now.0 ∷ more.0, (λ i. now.1 i ∷ more.1 i), right_first before now.0 more.0 now.2 more.2)

  pub some_replay : (events : List JobEvent) → (text : List ℕ) × IsReplay nodes slots events text
  some_replay events =
      let all = replies [] events in
      let completed = completed_count nodes all.0 in
      let failed = failed_count nodes all.0 in
      let running = running_count nodes all.0 in
      let waiting = waiting_count nodes all.0 in
      let held = held_count nodes all.0 in (
        history_text nodes all.0 ++ counts_line completed.0 failed.0 running.0 waiting.0 held.0,
        record {
          told = all.0;
          history = all.2;
          same = all.1;
          counted = record {
            completed = completed.0;
            failed = failed.0;
            running = running.0;
            waiting = waiting.0;
            held = held.0;
            are_completed = completed.1;
            have_failed = failed.1;
            run = running.1;
            wait = waiting.1;
            are_held = held.1;
            text = refl;
          };
        },
      )
