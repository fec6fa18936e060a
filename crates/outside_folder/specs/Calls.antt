-- What calls on a folder leave unchanged, and what a read finds at a path.
use Rattle.std.specs.Prelude.{◌≡◌, ℕ, ◌≤◌, nat_lt, length, Option, Some, None, if◌then◌else◌}
use Rattle.plan_types.specs.declared.refusal.Halt.{Halt}
use Rattle.plan_types.specs.declared.refusal.Halt.TheVariants as halt
use Rattle.outside_folder.specs.declared.calls.Trouble.{Trouble}
use Rattle.outside_folder.specs.declared.calls.Trouble.TheVariants.{Failed, NoMemory}
use Rattle.outside_folder.specs.declared.calls.Content.{Content}
use Rattle.outside_folder.specs.declared.calls.Content.TheVariants.{Missing, TooLarge, Bytes as Holds}
use Rattle.outside_folder.specs.Faults.{Rose}
use Rattle.outside_folder.specs.Files.{Bytes, Files, file_at}
use Rattle.outside_folder.specs.Folder.{file_limit}

-- The observable files are unchanged. The count of faults rose if the calls failed, and is unchanged otherwise.
pub record Leaves {F : Type 0} (tells : F → Option Files) (faults : F → ℕ) (old new : F) (failed : Type 0) : Type 0 where
  pub same_files : tells new ≡ tells old
  pub later : faults old ≤ faults new
  pub rose : failed → Rose (faults old) (faults new)
  pub still : (failed → ⊥) → faults new ≡ faults old

-- what a read finds of a file with these bytes, or of no file
abbrev pub content_of : Option Bytes → Content
content_of None = Missing
content_of (Some bytes) = if nat_lt file_limit (length bytes) then TooLarge else Holds bytes

-- what a read finds at a path
abbrev pub content_at : Files → Bytes → Content
content_at files path = content_of (file_at files path)

-- a file whose bytes were read is within the limit
abbrev pub IsWithin : Content → Type 0
IsWithin Missing = Unit {0}
IsWithin TooLarge = Unit {0}
IsWithin (Holds bytes) = length bytes ≤ file_limit

-- the halt of a step whose call on a folder failed or ran out of memory
abbrev pub halt_of : Trouble → Halt
halt_of Failed = halt.Failed
halt_of NoMemory = halt.NoMemory
