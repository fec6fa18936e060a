-- the pieces so far
use Rattle.std.proofs.Common.{◌≡◌, map, take}
use Rattle.plan_components.specs.declared.node.Piece.TheVariants.{One}
use Rattle.plan_components.proofs.pieces.one_by_one.Given as goal

abbrev pub invariant-loop-place : goal.invariant-loop-place
invariant-loop-place l = l.pieces ≡ map One (take l.place-index l.places)
