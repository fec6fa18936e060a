-- The notes on an index: skipped files, and warnings on what was accepted unread.
use Rattle.std.specs.Prelude.{ℕ, List, [], ◌∷◌, ◌++◌, flat_map, codes}
use Rattle.plan_types.specs.declared.index.Skipped.{Skipped}
use Rattle.plan_types.specs.declared.index.Warning.{Warning}
use Rattle.plan_types.specs.declared.index.Index.{Index}
use Rattle.plan_print.specs.Cause.{cause_name}
use Rattle.plan_print.specs.Place.{place_text}

-- a note: a place, and a word on it
abbrev pub note_text : List ℕ → ℕ → List ℕ → List ℕ
note_text path line word = place_text path line ++ codes " " ++ word

-- the line of a note, which begins with its kind
abbrev pub note_line : List ℕ → List ℕ → ℕ → List ℕ → List ℕ
note_line kind path line word = kind ++ note_text path line word ++ 10 ∷ []

-- the note on a skipped file: its place and cause
abbrev pub skipped_note : Skipped → List ℕ
skipped_note file = note_text file.path file.line (cause_name file.cause)

-- the note's line
abbrev pub skipped_line : Skipped → List ℕ
skipped_line file = note_line (codes "skipped ") file.path file.line (cause_name file.cause)

-- a warning: a place, and the word that was accepted unread
abbrev pub warning_note : Warning → List ℕ
warning_note warning = note_text warning.path warning.line warning.word

-- the note's line
abbrev pub warning_line : Warning → List ℕ
warning_line warning = note_line (codes "warning ") warning.path warning.line warning.word

-- the lines of all skipped files, then of all warnings
abbrev pub notes_text : Index → List ℕ
notes_text index = flat_map skipped_line index.skipped ++ flat_map warning_line index.warnings
