use Rattle.std.proofs.Common.{◌≡◌, map, take}
use Rattle.std.specs.Prelude.{filter}
use Rattle.project_paths.specs.Patterns.{is_name}
use Rattle.project_paths.proofs.pattern.names_among.Given as goal

abbrev pub invariant-loop-piece : goal.invariant-loop-piece
invariant-loop-piece l = l.names ≡ filter is_name (map (λ piece. piece.now) (take l.piece-index l.pieces))
