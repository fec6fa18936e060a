-- The effect of a write on a sink's bytes, and the writes of a whole text.
use Rattle.std.specs.Prelude.{◌≡◌, ℕ, ◌≤◌, ◌<◌, List, [], ◌∷◌, ◌++◌, length, take, drop, Option, None, Result, Ok, Err}
use Rattle.std.specs.declared.io.Error.{Error}
use Rattle.outside_folder.specs.declared.sink.SinkFault.{SinkFault}
use Rattle.outside_folder.specs.declared.sink.SinkFault.TheVariants.{Failed}
use Rattle.std.specs.Option.{option_map}

-- the bytes of a sink that isn't observable
abbrev pub untold : Option (List ℕ)
untold = None

-- where the sink is observable, these bytes were appended
abbrev pub Appends : Option (List ℕ) → Option (List ℕ) → List ℕ → Type 0
Appends old new piece = new ≡ option_map (λ bytes. bytes ++ piece) old

-- where the sink is observable, a prefix of the text was appended
abbrev pub AppendsPrefix : Option (List ℕ) → Option (List ℕ) → List ℕ → Type 0
AppendsPrefix old new text = (n : ℕ) × (n ≤ length text) × Appends old new (take n text)

-- a write took so many bytes of the piece, at least one of a non-empty piece
abbrev pub IsCount : List ℕ → ℕ → Type 0
IsCount piece n = (n ≤ length piece) × (0 < length piece → 0 < n)

-- A sequence of writes: each was offered the rest of the text and took so many bytes. This is left at the end.
abbrev pub Offers : {S : Type 0} → (S → List ℕ → Result ℕ SinkFault → S → Type 0) → S → List ℕ → List ℕ → S → List ℕ → Type 0
Offers takes sink text [] now left = (sink ≡ now) × (text ≡ left)
Offers {S = S} takes sink text (n ∷ ns) now left =
    (0 < length text) × (next : S) × takes sink text (Ok n) next × Offers takes next (drop n text) ns now left

-- such writes took the whole text
abbrev pub IsWritten : {S : Type 0} → (S → List ℕ → Result ℕ SinkFault → S → Type 0) → S → List ℕ → S → Type 0
IsWritten takes old text new = (counts : List ℕ) × Offers takes old text counts new []

-- such writes took a part of the text, the next write failed, and it was the last
abbrev pub IsCut : {S : Type 0} → (S → List ℕ → Result ℕ SinkFault → S → Type 0) → S → List ℕ → S → Type 0
IsCut {S = S} takes old text new =
    (counts : List ℕ) × (at : S) × (left : List ℕ) × (fault : SinkFault)
    × Offers takes old text counts at left × (0 < length left) × takes at left (Err fault) new

-- The sink's result for a writer's answer: to take nothing of a non-empty piece is a failure.
abbrev pub IsTakenAs : List ℕ → Result ℕ Error → Result ℕ SinkFault → Type 0
IsTakenAs piece (Ok n) (Ok taken) = taken ≡ n
IsTakenAs piece (Ok n) (Err Failed) = (n ≡ 0) × (0 < length piece)
IsTakenAs piece (Err error) (Ok taken) = ⊥
IsTakenAs piece (Err error) (Err Failed) = Unit {0}

-- the writer was called once, and the sink's result is the one for its answer
abbrev pub Takes : {W : Type 0} → (W → List ℕ → Result ℕ Error → W → Type 0) → W → List ℕ → Result ℕ SinkFault → W → Type 0
Takes writes old piece result new = (answer : Result ℕ Error) × writes old piece answer new × IsTakenAs piece answer result
