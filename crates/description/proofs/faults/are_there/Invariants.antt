use Rattle.std.proofs.Common.{◌≡◌, drop}
use Rattle.std.specs.List.{list_all}
use Rattle.stanza_imports.specs.Names.{has}
use Rattle.description.proofs.faults.are_there.Given as goal

abbrev pub invariant-loop-name : goal.invariant-loop-name
invariant-loop-name l = list_all (has l.known) (drop l.name-index l.names) ≡ list_all (has l.known) l.names
