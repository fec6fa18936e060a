-- the lines so far, and the rest
use Rattle.std.proofs.Common.{◌≡◌, ◌++◌, drop}
use Rattle.freeze_text.specs.Text.{lines_text}
use Rattle.freeze_text.proofs.text.push_lines.Given as goal

abbrev pub invariant-loop-place : goal.invariant-loop-place
invariant-loop-place l = l.text ++ lines_text (drop l.place l.constraints) ≡ l.fn.text ++ lines_text l.constraints
