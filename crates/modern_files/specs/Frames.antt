-- The frame of a file: what becomes of it.
use Rattle.std.specs.Prelude.{◌≡◌, ℕ, List, [], ◌∷◌, ◌++◌, length, flat_map, codes}
use Rattle.std.specs.Fmt.{decimal}
use Rattle.plan_types.specs.Refusal.{refusal_at}
use Rattle.plan_types.specs.declared.refusal.Cause.{Cause}
use Rattle.plan_types.specs.declared.refusal.Cause.TheVariants as cause
use Rattle.outside_folder.specs.Calls.{content_at}
use Rattle.outside_folder.specs.Files.{Bytes, Files}
use Rattle.outside_folder.specs.declared.calls.Content.{Content}
use Rattle.outside_folder.specs.declared.calls.Content.TheVariants as content
use Rattle.older_rules.specs.declared.change.Change.{Change}
use Rattle.older_rules.specs.declared.change.Change.TheVariants.{Header, BuildType, Setup, Sections, Dropped, Tools, UnknownTool, Name}
use Rattle.older_headers.specs.Answers.{IsAnswer, IsRefusal}
use Rattle.older_headers.specs.declared.answer.Answer.{Answer}
use Rattle.older_headers.specs.declared.answer.Answer.TheVariants.{Unchanged, Rewritten}
use Rattle.plan_print.specs.Texts.{refusal_text}
use Rattle.modern_files.specs.declared.frame.Outcome.{Outcome}
use Rattle.modern_files.specs.declared.frame.Outcome.TheVariants.{Missing, Answered, Refused}

-- ---- what becomes of a file

-- what becomes of the bytes of a file
abbrev pub Becomes : Bytes → Outcome → Type 0
Becomes bytes Missing = ⊥
Becomes bytes (Answered answer) = IsAnswer bytes answer
Becomes bytes (Refused line why) = IsRefusal bytes line why

-- what becomes of the content at a path
abbrev pub IsOutcome : Content → Outcome → Type 0
IsOutcome content.Missing outcome = outcome ≡ Missing
IsOutcome content.TooLarge outcome = outcome ≡ Refused 0 cause.TooLarge
IsOutcome (content.Bytes bytes) outcome = Becomes bytes outcome

-- ---- its text

abbrev pub word_frame : Bytes → Bytes → Bytes
word_frame word path = word ++ path ++ 10 ∷ []

abbrev pub line_of : Bytes → ℕ → Bytes
line_of words line = words ++ decimal line ++ 10 ∷ []

-- the line of a change; a line of the older file stands behind it
abbrev pub change_line : Change → Bytes
change_line Header = codes "change header\n"
change_line BuildType = codes "change build-type\n"
change_line Setup = codes "change custom-setup\n"
change_line Sections = codes "change sections\n"
change_line (Dropped line) = line_of (codes "change left-out ") line
change_line (Tools line) = line_of (codes "change build-tools ") line
change_line (UnknownTool line) = line_of (codes "change unknown-tool ") line
change_line (Name line) = line_of (codes "change component-name ") line

-- the changes, the number of the text's bytes, and the text with a line feed behind it
abbrev pub rewritten_text : Bytes → Bytes → List Change → Bytes
rewritten_text path text changes =
    word_frame (codes "rewritten ") path ++ flat_map change_line changes ++ line_of (codes "bytes ") (length text) ++ text ++ 10 ∷ []

abbrev pub frame_text : Bytes → Outcome → Bytes
frame_text path Missing = word_frame (codes "missing ") path
frame_text path (Answered Unchanged) = word_frame (codes "unchanged ") path
frame_text path (Answered (Rewritten text changes)) = rewritten_text path text changes
frame_text path (Refused line why) = refusal_text (refusal_at path line why)

-- the frame of the content at a path
abbrev pub IsFrame : Bytes → Content → Bytes → Type 0
IsFrame path found frame = (outcome : Outcome) × IsOutcome found outcome × (frame ≡ frame_text path outcome)

-- the frames of the files at these paths, one after the other
abbrev pub AreFrames : Files → List Bytes → Bytes → Type 0
AreFrames files [] text = text ≡ []
AreFrames files (path ∷ paths) text =
    (frame : Bytes) × (others : Bytes) × IsFrame path (content_at files path) frame × AreFrames files paths others × (text ≡ frame ++ others)
