-- Lines, made one by one.
use Rattle.std.specs.Prelude.{ℕ, List, [], fold, length, replicate, slice_index_or, slice_set, option_and_then, Option, None}
use Rattle.plan_nodes.specs.declared.node.PlanNode.{PlanNode}
use Rattle.plan_components.specs.declared.reached.Reached.{Reached}
use Rattle.plan_components.specs.Chosen.{Selection}
use Rattle.plan_components.specs.Steps.{node_at}
use Rattle.plan_lines.specs.Line.{line_of}
use Rattle.node_lines.specs.Gather.{gathered, line_at}

-- the line of the node at a place, from the lines so far
abbrev pub line_from : Selection → Reached → List (Option PlanNode) → ℕ → Option PlanNode
line_from selection reached lines place =
    let nodes = reached.set.keys in
    let needs = slice_index_or reached.needs place [] in
    option_and_then (line_of selection (node_at nodes place)) (gathered (line_at nodes lines) needs)

-- the lines so far, with that of the node at a place
abbrev pub with_place : Selection → Reached → List (Option PlanNode) → ℕ → List (Option PlanNode)
with_place selection reached lines place = slice_set lines place (line_from selection reached lines place)

-- the lines after those at these places are made, in this order
abbrev pub lines_along : Selection → Reached → List ℕ → List (Option PlanNode)
lines_along selection reached order = fold (with_place selection reached) (replicate (length reached.set.keys) None) order
