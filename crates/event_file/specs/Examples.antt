-- The definition on small files.
use Rattle.std.specs.Prelude.{[], ◌∷◌, Ok, codes, refl}
use Rattle.replay_text.specs.declared.event.JobEvent.TheVariants.{Start}
use Rattle.replay_text.specs.Reading.{empty, none, one}
use Rattle.event_file.specs.Events.{AreEventsAt}

-- the file is missing
missing : AreEventsAt (codes "events") [] (Ok [])
missing = refl

-- an empty line, and one without a line feed
two_lines : AreEventsAt (codes "events") ((codes "events", codes "\nstart") ∷ []) (Ok (Start ∷ []))
two_lines = (Ok (Start ∷ []), empty (one (codes "start") Start (record { text = refl; short = tt }) none), refl)
