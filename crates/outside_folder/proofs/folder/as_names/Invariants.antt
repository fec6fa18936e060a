use Rattle.std.proofs.Common.{◌≡◌, ◌++◌}
use Rattle.outside_folder.specs.Files.{as_names}
use Rattle.outside_folder.proofs.folder.as_names.Given as goal

-- the names so far and the rest are all names
abbrev pub invariant-loop-text : goal.invariant-loop-text
invariant-loop-text l = l.listed ++ as_names l.text-iterator ≡ as_names l.fn.names.entries
