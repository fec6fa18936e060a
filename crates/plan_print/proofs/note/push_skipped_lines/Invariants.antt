-- the lines so far
use Rattle.std.proofs.Common.{◌≡◌, ◌++◌, take}
use Rattle.std.specs.List.{flat_map}
use Rattle.plan_print.specs.Note.{skipped_line}
use Rattle.plan_print.proofs.note.push_skipped_lines.Given as goal

abbrev pub invariant-loop-file : goal.invariant-loop-file
invariant-loop-file l = l.text ≡ l.fn.text ++ flat_map skipped_line (take l.file-index l.skipped)
