-- the setups so far
use Rattle.std.proofs.Common.{◌≡◌, ◌++◌, flat_map, take}
use Rattle.frozen_choices.specs.Frozen.{asked_in_setup}
use Rattle.freeze_file.proofs.packages.Frozen.push_apart.Given as goal

abbrev pub invariant-loop-s : goal.invariant-loop-s
invariant-loop-s l =
    l.constraints ≡ l.initial.constraints ++ flat_map (asked_in_setup l.self.packages.now l.self.names.now l.self.trail.now l.p) (take l.s-index l.s-items)
