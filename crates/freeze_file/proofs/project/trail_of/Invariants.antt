-- the choices so far
use Rattle.std.proofs.Common.{◌≡◌, take}
use Rattle.freeze_file.proofs.project.trail_of.Given as goal

abbrev pub invariant-loop-choice : goal.invariant-loop-choice
invariant-loop-choice l = l.trail ≡ take l.choice-index l.choices
