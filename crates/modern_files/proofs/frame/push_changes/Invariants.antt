use Rattle.std.proofs.Common.{◌≡◌, ◌++◌, flat_map, take}
use Rattle.modern_files.specs.Frames.{change_line}
use Rattle.modern_files.proofs.frame.push_changes.Given as goal

abbrev pub invariant-loop-change : goal.invariant-loop-change
invariant-loop-change l = l.frame ≡ l.initial.frame ++ flat_map change_line (take l.change-index l.changes)
