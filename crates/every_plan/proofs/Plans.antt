-- Nodes get their lines in build order. Those that have one are sorted, and have a build order of their own.
use Rattle.std.proofs.Common.{Bool, List, Option, map, refl, is_lt}
use Rattle.plan_nodes.specs.declared.node.PlanNode.{PlanNode}
use Rattle.plan_nodes.specs.Once.{each_line_once}
use Rattle.common_laws.specs.StableSorts.{put_all}
use Rattle.common_laws.specs.SortedInsertion.{all_move, all_sorted}
use Rattle.plan_components.specs.declared.reached.Reached.{Reached}
use Rattle.plan_components.specs.Chosen.{Selection}
use Rattle.plan_components.specs.Plan.{AreReached}
use Rattle.build_order.proofs.SomeOrder.{some_order}
use Rattle.node_lines.specs.Along.{lines_along}
use Rattle.node_lines.specs.Lines.{AreLines}
use Rattle.plan_components.specs.Places.{graph_of as places_of}
use Rattle.node_lines.proofs.LineMaking.{are_lines}
use Rattle.elaborate.specs.declared.told.LinedNode.{LinedNode}
use Rattle.elaborate.specs.Plan.{IsPlan, graph_of, line_at}
use Rattle.elaborate.specs.Telling.{lined_nodes}
use Rattle.elaborate.specs.Told.{lined_cmp}
use Rattle.elaborate.proofs.NodeOrder.{told-order}
use Rattle.elaborate.proofs.PlannedNodes.{ranked}
use Rattle.every_plan.proofs.Reached.{some_reached}

-- the order in which nodes with lines are sorted
abbrev is_before : LinedNode → LinedNode → Bool
is_before s t = is_lt (lined_cmp s t)

module _ (selection : Selection) where
  abbrev Planned : Type 0
  Planned = (lines : List PlanNode) × IsPlan selection lines

  from-lines : (reached : Reached) → AreReached selection reached → (lines : List (Option PlanNode)) → AreLines selection reached.set.keys lines → Planned
  from-lines reached are lines have =
      let found = lined_nodes reached.set.keys lines in
      let all = put_all is_before told-order found in
      let places = some_order (graph_of selection all) in (
        each_line_once (map (line_at all) places.0),
        record {
          all = all;
          ranked = ranked selection reached are lines have all (all_move is_before told-order found) (all_sorted is_before told-order found);
          places = places.0;
          in_order = places.1;
          lines_are = refl;
        },
      )

  from-nodes : (reached : Reached) → AreReached selection reached → Planned
  from-nodes reached are =
      let order = some_order (places_of reached.set.keys reached.needs) in
      from-lines reached are (lines_along selection reached order.0) (are_lines selection reached are order.0 order.1)

  pub some_plan : Planned
  some_plan = let found = some_reached selection in from-nodes found.0 found.1
