-- The order of the nodes that have lines.
use Rattle.std.specs.declared.cmp.Ordering.{Ordering}
use Rattle.std.specs.declared.cmp.Ordering.TheVariants.{Less, Equal, Greater}
use Rattle.std.specs.Ordering.{nat_cmp, ordering_then}
use Rattle.std.specs.Cmp.Lexicographic.{slice_cmp}
use Rattle.plan_types.specs.Members.{order}
use Rattle.qualified_goals.specs.Variable.{qual_cmp}
use Rattle.plan_components.specs.declared.node.Node.{Node}
use Rattle.plan_components.specs.declared.node.Piece.{Piece}
use Rattle.plan_components.specs.declared.node.Piece.TheVariants.{One, Whole}
use Rattle.elaborate.specs.declared.told.LinedNode.{LinedNode}
use Rattle.elaborate.specs.declared.told.PlacedLine.{PlacedLine}

-- a whole package before its components, which are in file order
abbrev pub piece_cmp : Piece → Piece → Ordering
piece_cmp Whole Whole = Equal
piece_cmp Whole (One n) = Less
piece_cmp (One m) Whole = Greater
piece_cmp (One m) (One n) = nat_cmp m n

-- by qualifier, package and piece
abbrev pub node_cmp : Node → Node → Ordering
node_cmp a b = ordering_then (qual_cmp a.qual b.qual) (ordering_then (nat_cmp a.«package» b.«package») (piece_cmp a.piece b.piece))

-- By name, version, component, identifier and qualifier. Package and piece then break every tie.
abbrev pub lined_cmp : LinedNode → LinedNode → Ordering
lined_cmp a b =
    ordering_then (ordering_then (ordering_then (ordering_then
    (slice_cmp nat_cmp a.line.name b.line.name)
    (order a.line.version.parts b.line.version.parts))
    (slice_cmp nat_cmp a.line.component b.line.component))
    (slice_cmp nat_cmp a.line.id b.line.id))
    (node_cmp a.node b.node)

-- the same, without regard to the places
abbrev pub placed_cmp : PlacedLine → PlacedLine → Ordering
placed_cmp a b = lined_cmp a.lined b.lined
