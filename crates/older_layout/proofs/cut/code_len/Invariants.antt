use Rattle.std.proofs.Common.{◌≡◌, ◌+◌, length}
use Rattle.older_layout.specs.Cuts.{code_len}
use Rattle.older_layout.proofs.cut.code_len.Given as goal

abbrev pub invariant-loop-rest : goal.invariant-loop-rest
invariant-loop-rest l = (l.length + code_len l.rest ≡ code_len l.text) × (l.length + length l.rest ≡ length l.text)

abbrev pub decreases-loop-rest : goal.decreases-loop-rest
decreases-loop-rest l = length l.rest
