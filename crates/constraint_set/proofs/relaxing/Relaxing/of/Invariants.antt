-- what the settings so far relax
use Rattle.std.proofs.Common.{take}
use Rattle.constraint_set.specs.Relaxing.{RelaxesAs}
use Rattle.constraint_set.proofs.relaxing.Relaxing.of.Given as goal

abbrev pub invariant-loop-relax : goal.invariant-loop-relax
invariant-loop-relax l = RelaxesAs (take l.relax-index l.relaxed) l.kept
