-- the owners of the choices so far
use Rattle.std.proofs.Common.{◌≡◌, ℕ, take}
use Rattle.freeze_file.specs.Steps.{has, is_setup_in}
use Rattle.freeze_file.proofs.project.setup_owners.Given as goal

abbrev pub invariant-loop-choice : goal.invariant-loop-choice
invariant-loop-choice l = (n : ℕ) → has l.owners n ≡ is_setup_in (take l.choice-index l.choices) n
