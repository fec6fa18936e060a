use Rattle.std.proofs.Common.{◌≡◌, map, take}
use Rattle.project_paths.proofs.wildcard.finders.Given as goal

abbrev pub invariant-loop-piece : goal.invariant-loop-piece
invariant-loop-piece l = l.finders.items ≡ map (λ piece. piece.now) (take l.piece-index l.pieces)
