use Rattle.std.proofs.Common.{◌≡◌, ◌++◌, map, flat_map, take}
use Rattle.older_rules.specs.Tools.{tool_of, tool_told}
use Rattle.older_rules.proofs.tools.each_tool.Given as goal

abbrev pub invariant-loop-piece : goal.invariant-loop-piece
invariant-loop-piece l =
    (l.found ≡ flat_map (tool_of l.own.entries) (map (λ piece. piece.now) (take l.piece-index l.pieces)))
    × (l.changes ≡ l.initial.changes ++ flat_map (tool_told l.own.entries l.line) (map (λ piece. piece.now) (take l.piece-index l.pieces)))
