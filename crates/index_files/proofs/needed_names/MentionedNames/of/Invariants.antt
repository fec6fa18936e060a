-- the names that the units so far mention
use Rattle.std.proofs.Common.{◌≡◌, ℕ, List, take}
use Rattle.index_files.specs.NeededNames.{needed_in}
use Rattle.index_files.specs.Units.{needed_among}
use Rattle.index_files.proofs.needed_names.MentionedNames.of.Given as goal

abbrev pub invariant-loop-unit : goal.invariant-loop-unit
invariant-loop-unit l = (name : List ℕ) → needed_in l.needed name ≡ needed_among l.fn.units name (take l.unit-index l.fn.units)
