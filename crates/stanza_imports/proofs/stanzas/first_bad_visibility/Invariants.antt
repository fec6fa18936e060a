use Rattle.std.proofs.Common.{◌≡◌, take}
use Rattle.stanza_imports.proofs.BadVisibilities.{worst}
use Rattle.stanza_imports.proofs.stanzas.first_bad_visibility.Given as goal

abbrev pub invariant-loop-one : goal.invariant-loop-one
invariant-loop-one l = l.first ≡ worst (take l.one-index l.one-items)
