-- The sorted lines without their places are the sorted nodes of the plan.
use Rattle.std.proofs.Common.{◌≡◌, ◌<◌, ℕ, ◌+◌, List, length, map, replicate, Option, refl, sym, ◌∙◌, subst, arith, is_lt}
use Rattle.std.specs.Prelude.{All, Contains}
use Rattle.std.specs.List.Sorted.{IsPermutation, IsSorted}
use Rattle.std.proofs.lemmas.List.{get_or-map, length-map}
use Rattle.std.proofs.lemmas.List.Sorted.{Contains-permutation, IsPermutation-map, IsPermutation-sym}
use Rattle.build_order.specs.Order.{IsBuildOrder}
use Rattle.common_laws.specs.Graphs.{IsGraph}
use Rattle.plan_nodes.specs.declared.node.PlanNode.{PlanNode}
use Rattle.plan_components.specs.declared.node.Node.{Node}
use Rattle.plan_components.specs.declared.reached.Reached.{Reached}
use Rattle.plan_components.specs.Chosen.{Selection}
use Rattle.plan_components.specs.Plan.{AreReached}
use Rattle.plan_components.specs.SameNode.{place_of}
use Rattle.node_lines.specs.Lines.{AreLines}
use Rattle.elaborate.specs.declared.told.LinedNode.{LinedNode}
use Rattle.elaborate.specs.declared.told.PlacedLine.{PlacedLine}
use Rattle.elaborate.specs.Plan.{AreRanked, graph_of}
use Rattle.elaborate.specs.Ranks.{ranked_row, ranks_by}
use Rattle.elaborate.specs.Telling.{lined_nodes, lined_of, placed_lines}
use Rattle.elaborate.specs.Told.{lined_cmp, placed_cmp}
use Rattle.elaborate.proofs.PlannedNodes as planned
use Rattle.elaborate.proofs.Telling.{right-place, without-places}

module _ (selection : Selection) (reached : Reached) (are : AreReached selection reached) (lines : List (Option PlanNode))
    (have : AreLines selection reached.set.keys lines) (items : List PlacedLine) (moved : IsPermutation (placed_lines reached.set.keys lines) items)
    (sorted : IsSorted placed_cmp items) where
  abbrev keys : List Node
  keys = reached.set.keys

  abbrev all : List LinedNode
  all = map lined_of items

  moved_nodes : IsPermutation (lined_nodes keys lines) all
  moved_nodes = subst (λ l. IsPermutation l all) (without-places 0 keys lines) (IsPermutation-map lined_of (placed_lines keys lines) items moved)

  sorted_nodes : IsSorted lined_cmp all
  sorted_nodes k d low high =
      let count = length-map items lined_of in
      let e : PlacedLine = record { place = 0; lined = d } in
      let next : k + 1 < length items = omega (arith, count, high) in
      (λ j. is_lt (lined_cmp (get_or-map lined_of items (k + 1) e d next j) (get_or-map lined_of items k e d (omega (arith, next)) j)))
      ∙ sorted k e low next

  right_places : (p : PlacedLine) → Contains items p → p.place ≡ place_of keys p.lined.node
  right_places p c =
      let plain : 0 + place_of keys p.lined.node ≡ place_of keys p.lined.node = omega arith in
      right-place 0 keys lines p are.once (Contains-permutation items (placed_lines keys lines) p (IsPermutation-sym (placed_lines keys lines) items moved) c)
      ∙ plain

  pub are_ranked : AreRanked selection all
  are_ranked = planned.ranked selection reached are lines have all moved_nodes sorted_nodes

  -- the graph that is made is that of the definition
  made_graph : (ranks : List ℕ) (graph : List (List ℕ)) → ranks ≡ ranks_by (replicate (length keys) 0) 0 items
      → graph ≡ map (ranked_row reached.places ranks) items → graph ≡ graph_of selection all
  made_graph = planned.made_graph selection reached are lines have all moved_nodes sorted_nodes items refl right_places

  module _ (ranks : List ℕ) (graph : List (List ℕ)) (ranked : ranks ≡ ranks_by (replicate (length keys) 0) 0 items)
      (rows : graph ≡ map (ranked_row reached.places ranks) items) where
    pub is_graph : IsGraph graph
    is_graph = subst IsGraph (sym (made_graph ranks graph ranked rows)) (planned.is_graph selection reached are lines have all moved_nodes sorted_nodes)

    pub in_order : (places : List ℕ) → IsBuildOrder graph places → IsBuildOrder (graph_of selection all) places
    in_order places build = subst (λ g. IsBuildOrder g places) (made_graph ranks graph ranked rows) build

    pub places_within : (places : List ℕ) → IsBuildOrder graph places → All (λ place. place < length items) places
    places_within places build =
        subst (λ n. All (λ place. place < n) places) (length-map items lined_of)
        (planned.places_within selection reached are lines have all moved_nodes sorted_nodes places (in_order places build))
