-- The events of a file in a folder.
use Rattle.std.specs.Prelude.{◌≡◌, ℕ, List, [], Result, Ok, Err}
use Rattle.std.specs.Str.Lines.{lines}
use Rattle.outside_folder.specs.Calls.{content_at}
use Rattle.outside_folder.specs.Files.{Bytes, Files}
use Rattle.outside_folder.specs.declared.calls.Content.{Content}
use Rattle.outside_folder.specs.declared.calls.Content.TheVariants.{Missing, TooLarge, Bytes as Holds}
use Rattle.plan_types.specs.Refusal.{refusal_at}
use Rattle.plan_types.specs.declared.refusal.Cause.TheVariants as cause
use Rattle.plan_types.specs.declared.refusal.Refusal.{Refusal}
use Rattle.replay_text.specs.Reading.{AreRead}
use Rattle.replay_text.specs.declared.event.JobEvent.{JobEvent}

-- the events, or the refusal at the first bad line
abbrev pub events_or_refusal : Bytes → Result (List JobEvent) ℕ → Result (List JobEvent) Refusal
events_or_refusal path (Ok events) = Ok events
events_or_refusal path (Err number) = Err (refusal_at path number cause.BadEvent)

-- the events of the content at a path, none if it is missing, or its refusal
abbrev pub AreEventsIn : Bytes → Content → Result (List JobEvent) Refusal → Type 0
AreEventsIn path Missing told = told ≡ Ok []
AreEventsIn path TooLarge told = told ≡ Err (refusal_at path 0 cause.TooLarge)
AreEventsIn path (Holds bytes) told = (read : Result (List JobEvent) ℕ) × AreRead (lines bytes) read × (told ≡ events_or_refusal path read)

-- the events of the file at a path, or its refusal
abbrev pub AreEventsAt : Bytes → Files → Result (List JobEvent) Refusal → Type 0
AreEventsAt path files told = AreEventsIn path (content_at files path) told
