use Rattle.std.proofs.Common.{◌≡◌, map, take}
use Rattle.cabal_lexer.specs.Lines.{trim}
use Rattle.section_syntax.proofs.words.trimmed.Given as goal

abbrev pub invariant-loop-piece : goal.invariant-loop-piece
invariant-loop-piece l = l.names ≡ map trim (map (λ piece. piece.now) (take l.piece-index l.pieces))
