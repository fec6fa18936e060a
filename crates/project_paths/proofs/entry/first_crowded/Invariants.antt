use Rattle.std.proofs.Common.{◌≡◌, take}
use Rattle.std.specs.Option.{option_copied}
use Rattle.project_paths.specs.Entries.{first_crowded}
use Rattle.project_paths.proofs.entry.first_crowded.Given as goal

abbrev pub invariant-loop-one : goal.invariant-loop-one
invariant-loop-one l = option_copied l.first ≡ first_crowded (take l.one-index l.found)
