use Rattle.std.proofs.Common.{◌≡◌, drop}
use Rattle.project_file.specs.Texts.{first_fault}
use Rattle.project_file.proofs.text.first_fault.Given as goal

abbrev pub invariant-loop-part : goal.invariant-loop-part
invariant-loop-part l = first_fault (drop l.part-index l.parts) ≡ first_fault l.parts
