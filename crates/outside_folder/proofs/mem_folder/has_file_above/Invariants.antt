use Rattle.std.proofs.Common.{◌≡◌, ◌<◌, ℕ, None, take}
use Rattle.std.specs.BTreeMap.{get_by_text}
use Rattle.outside_folder.specs.MemFile.{IsFront}
use Rattle.outside_folder.proofs.mem_folder.has_file_above.Given as goal

-- no directory so far is a file's path
abbrev pub invariant-loop-end : goal.invariant-loop-end
invariant-loop-end l = (n : ℕ) → n < l.end → IsFront l.path n → get_by_text l.places (take n l.path) ≡ None
