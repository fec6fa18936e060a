use Rattle.std.proofs.Common.{ℕ, List, ◌++◌, length, map}
use Rattle.entry_text.specs.Entries.{Pieces}
use Rattle.entry_text.proofs.entries.pieces.Given as goal

-- the pieces so far, followed by those of the rest, are those of the text
abbrev pub invariant-loop-piece : goal.invariant-loop-piece
invariant-loop-piece l = (more : List (List ℕ)) → Pieces l.rest more → Pieces l.text (map (λ piece. piece.now) l.pieces.items ++ more)

abbrev pub decreases-loop-piece : goal.decreases-loop-piece
decreases-loop-piece l = length l.rest
