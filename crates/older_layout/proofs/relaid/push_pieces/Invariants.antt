use Rattle.std.proofs.Common.{◌++◌, ℕ, length}
use denote.Text.{Utf8}
use denote.Shadow.{shadow}
use Rattle.older_layout.specs.Relaid.{pieces}
use Rattle.older_layout.proofs.Turns.{Completes}
use Rattle.older_layout.proofs.relaid.push_pieces.Given as goal

abbrev pub invariant-loop-rest : goal.invariant-loop-rest
invariant-loop-rest l =
    let whole = pieces l.opens l.fn.state l.line in
    shadow (Utf8 l.rest) × ((n : ℕ) × Completes l.opens l.line.number l.indent l.state l.rest l.found.items (l.initial.found.items ++ whole.0) whole.1 n)

abbrev pub decreases-loop-rest : goal.decreases-loop-rest
decreases-loop-rest l = length l.rest
