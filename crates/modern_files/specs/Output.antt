-- What a run writes.
use Rattle.std.specs.Prelude.{◌≡◌, ◌⊎◌, ℕ, ◌≤◌, List, [], ◌∷◌, ◌++◌, codes, Option, Result, Ok, Err}
use Rattle.plan_types.specs.declared.refusal.Refusal.{Refusal}
use Rattle.outside_folder.specs.Calls.{content_at}
use Rattle.outside_folder.specs.Faults.{Rose}
use Rattle.outside_folder.specs.Files.{Bytes, Files}
use Rattle.outside_folder.specs.Sink.{Appends, AppendsPrefix}
use Rattle.plan_print.specs.Texts.{refusal_text}
use Rattle.modern_files.specs.Frames.{AreFrames, IsFrame}
use Rattle.modern_files.specs.Lists.{AreListed}
use Rattle.modern_files.specs.declared.status.Status.{Status}
use Rattle.modern_files.specs.declared.status.Status.TheVariants as status
use Rattle.modern_files.specs.declared.status.Stop.{Stop}
use Rattle.modern_files.specs.declared.status.Stop.TheVariants as stop

-- ---- the sink

-- the count of faults rose iff a write failed
pub record Counted (before now : ℕ) (failed : Type 0) : Type 0 where
  pub later : before ≤ now
  pub rose : failed → Rose before now
  pub still : (failed → ⊥) → now ≡ before

-- a text was written; after a failed write a prefix of it, and out of memory nothing
abbrev pub WritesText : Bytes → Option Bytes → Option Bytes → Result Unit Stop → Type 0
WritesText text old new (Ok all) = Appends old new text
WritesText text old new (Err stop.Unwritten) = AppendsPrefix old new text
WritesText text old new (Err stop.Unread) = ⊥
WritesText text old new (Err stop.NoMemory) = new ≡ old

-- the frame of the file at a path was written; after a failed write a prefix of it, and else nothing
abbrev pub WritesFrame : Files → Bytes → Option Bytes → Option Bytes → Result Unit Stop → Type 0
WritesFrame files path old new (Ok all) = (frame : Bytes) × IsFrame path (content_at files path) frame × Appends old new frame
WritesFrame files path old new (Err stop.Unwritten) = (frame : Bytes) × IsFrame path (content_at files path) frame × AppendsPrefix old new frame
WritesFrame files path old new (Err stop.Unread) = new ≡ old
WritesFrame files path old new (Err stop.NoMemory) = new ≡ old

-- the frames of the first of these files
pub record AreFirst (files : Files) (paths : List Bytes) (text : Bytes) : Type 0 where
  pub first : List Bytes
  pub rest : List Bytes
  pub are : paths ≡ first ++ rest
  pub frames : AreFrames files first text

-- The frames of the files at these paths were written. After a failed read, or out of memory, those of the first files;
-- after a failed write a prefix of these.
abbrev pub WritesFrames : Files → List Bytes → Option Bytes → Option Bytes → Result Unit Stop → Type 0
WritesFrames files paths old new (Ok all) = (text : Bytes) × AreFrames files paths text × Appends old new text
WritesFrames files paths old new (Err stop.Unwritten) = (text : Bytes) × AreFirst files paths text × AppendsPrefix old new text
WritesFrames files paths old new (Err stop.Unread) = (text : Bytes) × AreFirst files paths text × Appends old new text
WritesFrames files paths old new (Err stop.NoMemory) = (text : Bytes) × AreFirst files paths text × Appends old new text

-- ---- a run

-- the line for no list
abbrev pub usage_text : Bytes
usage_text = codes "usage: modern-headers LIST ..., each a file with a path a line\n"

-- the usage line was written; after a failed write a prefix of it
abbrev pub WritesUsage : Option Bytes → Option Bytes → Status → Type 0
WritesUsage old new status.Usage = Appends old new usage_text
WritesUsage old new status.WriteFault = AppendsPrefix old new usage_text
WritesUsage old new status.Written = ⊥
WritesUsage old new status.Refused = ⊥
WritesUsage old new status.ReadFault = ⊥
WritesUsage old new status.NoMemory = ⊥

-- The text of a run over these lists, and its end.
pub data IsText (files : Files) : List Bytes → Bytes → Status → Type 0 where
  -- no list
  usage : IsText files [] usage_text status.Usage
  -- the first refusal of a list
  refused : {list : Bytes} {lists : List Bytes} (refusal : Refusal) → AreListed files (list ∷ lists) (Err refusal)
      → IsText files (list ∷ lists) (refusal_text refusal) status.Refused
  -- the frames of the files at all paths
  frames : {list : Bytes} {lists : List Bytes} {text : Bytes} (paths : List Bytes) → AreListed files (list ∷ lists) (Ok paths)
      → AreFrames files paths text → IsText files (list ∷ lists) text status.Written

-- a text of which the end of a run may leave a part: a whole one, or the frames of the first files
abbrev pub IsBegun : Files → List Bytes → Bytes → Type 0
IsBegun files lists text =
    ((end : Status) × IsText files lists text end) ⊎ ((paths : List Bytes) × AreListed files lists (Ok paths) × AreFirst files paths text)

-- The bytes that a run adds to the sink, by its end.
pub data Writes (files : Files) (lists : List Bytes) (old new : Option Bytes) : Status → Type 0 where
  -- the whole text
  whole : {end : Status} (text : Bytes) → IsText files lists text end → Appends old new text → Writes files lists old new end
  -- a prefix of a text, after a failed write
  cut : (text : Bytes) → IsBegun files lists text → AppendsPrefix old new text → Writes files lists old new status.WriteFault
  -- the frames of the first files, after a failed read or out of memory
  unread : (paths : List Bytes) (text : Bytes) → AreListed files lists (Ok paths) → AreFirst files paths text → Appends old new text
      → Writes files lists old new status.ReadFault
  out_of_memory : (paths : List Bytes) (text : Bytes) → AreListed files lists (Ok paths) → AreFirst files paths text → Appends old new text
      → Writes files lists old new status.NoMemory
  -- nothing, if that was before the first frame
  none_read : new ≡ old → Writes files lists old new status.ReadFault
  no_room : new ≡ old → Writes files lists old new status.NoMemory
