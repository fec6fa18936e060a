-- the needs so far
use Rattle.std.proofs.Common.{◌≡◌, ◌++◌, map, take}
use Rattle.plan_components.specs.Needs.{need_of}
use Rattle.plan_components.proofs.needs.push_pieces.Given as goal

abbrev pub invariant-loop-piece : goal.invariant-loop-piece
invariant-loop-piece l = l.needs ≡ l.fn.needs ++ map (need_of l.kind l.qual l.«package») (take l.piece-index l.pieces)
