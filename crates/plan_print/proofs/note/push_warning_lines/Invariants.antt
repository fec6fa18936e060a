-- the lines so far
use Rattle.std.proofs.Common.{◌≡◌, ◌++◌, take}
use Rattle.std.specs.List.{flat_map}
use Rattle.plan_print.specs.Note.{warning_line}
use Rattle.plan_print.proofs.note.push_warning_lines.Given as goal

abbrev pub invariant-loop-warning : goal.invariant-loop-warning
invariant-loop-warning l = l.text ≡ l.fn.text ++ flat_map warning_line (take l.warning-index l.warnings)
