use Rattle.std.proofs.Common.{◌++◌, ℕ, length}
use Rattle.older_layout.specs.Relaid.{closers}
use Rattle.older_layout.proofs.Turns.{Closes}
use Rattle.older_layout.proofs.relaid.push_closers.Given as goal

abbrev pub invariant-loop-alloc : goal.invariant-loop-alloc
invariant-loop-alloc l =
    let whole = closers (length l.line.text) l.fn.state l.line in
    (n : ℕ) × Closes l.state l.rest l.found.items (l.initial.found.items ++ whole.0) whole.1 n

abbrev pub decreases-loop-alloc : goal.decreases-loop-alloc
decreases-loop-alloc l = length l.rest.text
