-- what was gathered, and the later needs
use Rattle.std.proofs.Common.{◌≡◌, drop}
use Rattle.node_lines.specs.Gather.{gather_from, gathered, line_at, needed_of}
use Rattle.node_lines.proofs.gather.gather.Given as goal

abbrev pub invariant-loop-k : goal.invariant-loop-k
invariant-loop-k l =
    let lines = line_at l.reached.set.keys l.lines in
    gather_from lines (needed_of l.sets) (drop l.k l.needs) ≡ gathered lines l.needs
