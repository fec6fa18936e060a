use Rattle.std.proofs.Common.{◌≡◌, length}
use Rattle.project_paths.specs.Pieces.{match_behind}
use Rattle.project_paths.proofs.wildcard.match_behind.Given as goal

abbrev pub invariant-loop-left : goal.invariant-loop-left
invariant-loop-left l = match_behind l.left l.rest ≡ match_behind l.pieces l.name

abbrev pub decreases-loop-left : goal.decreases-loop-left
decreases-loop-left l = length l.left
