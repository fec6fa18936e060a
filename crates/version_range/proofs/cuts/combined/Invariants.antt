use Rattle.std.proofs.Common.{◌≡◌, ◌∷◌, length}
use Rattle.plan_types.specs.declared.version.Version.{Version}
use Rattle.version_range.specs.Cuts.{joined}
use Rattle.version_range.proofs.cuts.combined.Given as goal

abbrev pub invariant-loop-second : goal.invariant-loop-second
invariant-loop-second l = (v : Version) → joined l.joint (l.first ∷ l.waiting.items) v ≡ joined l.joint l.fn.operands v

abbrev pub decreases-loop-second : goal.decreases-loop-second
decreases-loop-second l = length l.waiting.items
