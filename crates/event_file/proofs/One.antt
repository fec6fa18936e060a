-- The outcome of a file of events is unique. A step that reads no folder answers as one that does.
use Rattle.std.proofs.Common.{◌≡◌, ℕ, List, Result, Ok, Err, sym, ap, ◌∙◌}
use Rattle.std.specs.Str.Lines.{lines}
use Rattle.outside_folder.specs.Files.{Bytes}
use Rattle.outside_folder.specs.declared.calls.Content.{Content}
use Rattle.outside_folder.specs.declared.calls.Content.TheVariants.{Missing, TooLarge, Bytes as Holds}
use Rattle.plan_types.specs.Refusal.{Answers, Settles}
use Rattle.plan_types.specs.declared.refusal.Halt.{Halt}
use Rattle.plan_types.specs.declared.refusal.Halt.TheVariants as halt
use Rattle.plan_types.specs.declared.refusal.Refusal.{Refusal}
use Rattle.replay_text.specs.Reading.{AreRead}
use Rattle.replay_text.specs.declared.event.JobEvent.{JobEvent}
use Rattle.event_file.specs.Events.{AreEventsIn, events_or_refusal}

abbrev pub OneReading : Type 0
OneReading = (ls : List (List ℕ)) (a b : Result (List JobEvent) ℕ) → AreRead ls a → AreRead ls b → a ≡ b

pub one-in : OneReading → (path : Bytes) (content : Content) (a b : Result (List JobEvent) Refusal) → AreEventsIn path content a → AreEventsIn path content b → a ≡ b
one-in one path Missing a b h k = h ∙ sym k
one-in one path TooLarge a b h k = h ∙ sym k
one-in one path (Holds bytes) a b h k = h.2 ∙ ap (events_or_refusal path) (one (lines bytes) h.0 k.0 h.1 k.1) ∙ sym k.2

pub settled : {A : Type 0} (P : Result A Refusal → Type 0) (result : Result A Halt) → Settles P result → Answers P result
settled P (Ok a) h = h
settled P (Err halt.NoMemory) h = h
settled P (Err halt.Failed) h = absurd h
settled P (Err (halt.Refused refusal)) h = h

-- where no folder is read, no read fails
pub no-failure : {A : Type 0} (P : Result A Refusal → Type 0) (result : Result A Halt) → Settles P result → result ≡ Err halt.Failed → ⊥
no-failure P (Ok a) h e = cc e
no-failure P (Err halt.NoMemory) h e = cc e
no-failure P (Err halt.Failed) h e = h
no-failure P (Err (halt.Refused refusal)) h e = cc e
