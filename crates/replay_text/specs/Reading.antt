-- Files of events, line by line.
use Rattle.std.specs.Prelude.{◌≡◌, ◌+◌, ◌⊎◌, ℕ, zero, suc, List, [], ◌∷◌, ◌++◌, Result, Ok, Err, codes}
use Rattle.std.specs.Fmt.{decimal}
use Rattle.version_range.specs.Version.{IsNumber}
use Rattle.replay_text.specs.declared.event.EventsFault.{EventsFault}
use Rattle.replay_text.specs.declared.event.EventsFault.TheVariants.{NoMemory, Bad}
use Rattle.replay_text.specs.declared.event.JobEvent.{JobEvent}
use Rattle.replay_text.specs.declared.event.JobEvent.TheVariants.{Start, Completed, Failed}

-- the line of an event; numbers are from 1
abbrev pub event_text : JobEvent → List ℕ
event_text Start = codes "start"
event_text (Completed place) = codes "completed " ++ decimal (place + 1)
event_text (Failed place) = codes "failed " ++ decimal (place + 1)

-- the number of its node has at most nine digits
abbrev pub IsShort : JobEvent → Type 0
IsShort Start = Unit {0}
IsShort (Completed place) = IsNumber (place + 1)
IsShort (Failed place) = IsNumber (place + 1)

-- the line is that of the event
pub record IsLineOf (event : JobEvent) (line : List ℕ) : Type 0 where
  pub text : line ≡ event_text event
  pub short : IsShort event

-- the line is that of no event
abbrev pub NoEvent : List ℕ → Type 0
NoEvent line = (event : JobEvent) → IsLineOf event line → ⊥

-- the lines are those of these events, and empty ones
pub data AreEvents : List (List ℕ) → List JobEvent → Type 0 where
  none : AreEvents [] []
  empty : {lines : List (List ℕ)} {events : List JobEvent} → AreEvents lines events → AreEvents ([] ∷ lines) events
  one : {lines : List (List ℕ)} {events : List JobEvent} (line : List ℕ) (event : JobEvent) → IsLineOf event line → AreEvents lines events → AreEvents (line ∷ lines) (event ∷ events)

-- a line is empty or an event's
abbrev pub IsGood : List ℕ → Type 0
IsGood line = (line ≡ []) ⊎ ((event : JobEvent) × IsLineOf event line)

-- the number, from 1, of the first of these lines that is neither empty nor an event's
pub data IsFirstBad : List (List ℕ) → ℕ → Type 0 where
  here : {lines : List (List ℕ)} (line : List ℕ) → (IsGood line → ⊥) → IsFirstBad (line ∷ lines) (suc zero)
  later : {lines : List (List ℕ)} {number : ℕ} (line : List ℕ) → IsGood line → IsFirstBad lines number → IsFirstBad (line ∷ lines) (suc number)

-- the events of the lines, or their first bad line
abbrev pub AreRead : List (List ℕ) → Result (List JobEvent) ℕ → Type 0
AreRead lines (Ok events) = AreEvents lines events
AreRead lines (Err number) = IsFirstBad lines number

-- the fault of lines that aren't read
abbrev pub FirstBad : List (List ℕ) → EventsFault → Type 0
FirstBad lines NoMemory = Unit {0}
FirstBad lines (Bad number) = IsFirstBad lines number

-- the fault of one line with this number
abbrev pub BadAt : List ℕ → ℕ → EventsFault → Type 0
BadAt line number NoMemory = Unit {0}
BadAt line number (Bad told) = (told ≡ number) × (IsGood line → ⊥)

-- an empty line changes nothing, and another one appends its event
abbrev pub Adds : List ℕ → List JobEvent → List JobEvent → Type 0
Adds line old new = ((line ≡ []) × (new ≡ old)) ⊎ ((event : JobEvent) × IsLineOf event line × (new ≡ old ++ event ∷ []))
