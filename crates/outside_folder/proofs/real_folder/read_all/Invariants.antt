use Rattle.std.proofs.Common.{◌≡◌, ℕ, ◌+◌, ◌-◌, List, length}
use Rattle.outside_folder.specs.Files.{Bytes}
use Rattle.outside_folder.specs.Folder.{file_limit}
use Rattle.outside_folder.specs.RealFolder.{GivesPieces, joined}
use Rattle.outside_folder.proofs.real_folder.read_all.Given as goal

-- the bytes so far are those of the reads, and nothing has failed
abbrev pub invariant-loop-buffer : goal.invariant-loop-buffer
invariant-loop-buffer g l = record {
  given : (pieces : List Bytes) × GivesPieces (g.S.SystemCalls.gives l.system) l.fn.file pieces l.file × (l.bytes.items ≡ joined pieces);
  still : l.faults ≡ l.initial.faults;
}

abbrev pub decreases-loop-buffer : goal.decreases-loop-buffer
decreases-loop-buffer g l = file_limit + 1 - length l.bytes.items
