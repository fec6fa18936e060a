-- Shared: the sorted nodes are those of the plan that have lines, and their graph is that of the definition.
use Rattle.std.proofs.Common.{◌≡◌, ◌≢◌, ◌<◌, ℕ, true, List, [], map, length, replicate, get_or, Option, sym, ap, ◌∙◌, subst}
use Rattle.std.specs.Prelude.{All, AllPairs, Contains, Decides}
use Rattle.std.specs.Bool.{one_answer}
use Rattle.std.specs.List.Sorted.{IsPermutation, IsSorted}
use Rattle.std.proofs.lemmas.List.{length-map}
use Rattle.std.proofs.lemmas.List.Elements.{Contains-get_or}
use Rattle.std.proofs.lemmas.List.Sorted.{Contains-permutation, IsPermutation-map, IsPermutation-sym}
use Rattle.std.proofs.lemmas.Map.Keys.{IsDistinct-IsPermutation}
use Rattle.std.proofs.lemmas.Map.Made.{AllPairs-from_IsDistinct, IsDistinct-from_AllPairs}
use Rattle.build_order.proofs.PlacedNodes.{all_within}
use Rattle.build_order.specs.Order.{IsBuildOrder}
use Rattle.common_laws.specs.Graphs.{IsGraph}
use Rattle.common_laws.specs.Lists.{all-where, contains-map, map-contains, map-map}
use Rattle.plan_nodes.specs.declared.node.PlanNode.{PlanNode}
use Rattle.plan_components.specs.declared.node.Need.{Need}
use Rattle.plan_components.specs.declared.node.Node.{Node}
use Rattle.plan_components.specs.declared.reached.Reached.{Reached}
use Rattle.plan_components.specs.Chosen.{Selection}
use Rattle.plan_components.specs.Needs.{needs_of}
use Rattle.plan_components.specs.Plan.{AreReached, needed}
use Rattle.plan_components.specs.SameNode.{node-is, node-self, place_of, same_node}
use Rattle.plan_components.specs.Steps.{no_node}
use Rattle.plan_components.proofs.NeedPlaces.{map-on}
use Rattle.node_lines.specs.Lines.{AreLines, HasLine, told}
use Rattle.plan_components.specs.Places.{row_of}
use Rattle.node_lines.proofs.NodePlaces.{at_place, places_at, stands}
use Rattle.elaborate.specs.declared.told.LinedNode.{LinedNode}
use Rattle.elaborate.specs.declared.told.PlacedLine.{PlacedLine}
use Rattle.elaborate.specs.Plan.{AreRanked, graph_of, nodes_of}
use Rattle.elaborate.specs.Ranks.{rank_of, ranked_row, ranks_by}
use Rattle.elaborate.specs.Telling.{lined_nodes, lined_of}
use Rattle.elaborate.specs.Told.{lined_cmp}
use Rattle.elaborate.proofs.Members.{beside, once_told, told_at}
use Rattle.elaborate.proofs.Ranking.{rank_is, ranks_after, same_ranks}

decides : (m n : Node) → Decides (same_node m n) (m ≡ n)
decides m n = (node-is m n, λ e. subst (λ k. same_node m k ≡ true) e (node-self m))

flips : (m n : Node) → same_node m n ≡ same_node n m
flips m n = one_answer {P = m ≡ n} (same_node m n) (same_node n m) (decides m n) ((λ h. sym ((decides n m).0 h)), (λ e. (decides n m).1 (sym e)))

-- a permutation keeps nodes distinct
still_once : (ms ns : List Node) → IsPermutation ms ns → AllPairs (λ a b. a ≢ b) ms → AllPairs (λ a b. a ≢ b) ns
still_once ms ns moved once =
    AllPairs-from_IsDistinct decides ns (IsDistinct-IsPermutation same_node flips ms ns moved (IsDistinct-from_AllPairs decides ms once))

-- each need of a node with a line has a line
need_line : (selection : Selection) (node : Node) (line : PlanNode) → HasLine selection node line
    → (need : Need) → Contains (needs_of selection node) need → (l : PlanNode) × HasLine selection need.node l
need_line selection node line (told n l line_at each is) need c = (line_at need.node, each need c)

module _ (selection : Selection) (reached : Reached) (are : AreReached selection reached) (lines : List (Option PlanNode))
    (have : AreLines selection reached.set.keys lines) (all : List LinedNode) (moved : IsPermutation (lined_nodes reached.set.keys lines) all)
    (sorted : IsSorted lined_cmp all) where
  abbrev keys : List Node
  keys = reached.set.keys

  abbrev before : List LinedNode
  before = lined_nodes keys lines

  back : (t : LinedNode) → Contains all t → Contains before t
  back t c = Contains-permutation all before t (IsPermutation-sym before all moved) c

  reached_node : (t : LinedNode) → Contains all t → Contains keys t.node
  reached_node t c = let b = beside keys lines t (back t c) in subst (Contains keys) b.node (Contains-get_or keys b.place no_node b.within)

  pub ranked : AreRanked selection all
  ranked = record {
    once = still_once (nodes_of before) (nodes_of all) (IsPermutation-map (λ (t : LinedNode). t.node) before all moved) (once_told keys lines are.once);
    sorted = sorted;
    inside = λ t c. (are.each t.node).0 (reached_node t c);
    lines = λ t c.
        let b = beside keys lines t (back t c) in
        subst (λ n. HasLine selection n t.line) b.node ((have.each b.place t.line b.within).0 b.line);
    whole = λ t plan line.
        let at = stands selection reached are t.node plan in
        Contains-permutation before all t moved
        (told_at keys lines t (place_of keys t.node) at.within at.is ((have.each (place_of keys t.node) t.line at.within).1 (subst (λ n. HasLine selection n t.line) (sym at.is) line)));
  }

  -- the needs of these nodes are among them
  need_told : (t : LinedNode) → Contains all t → (need : Need) → Contains (needs_of selection t.node) need → Contains (nodes_of all) need.node
  need_told t c need k =
      let line = need_line selection t.node t.line (ranked.lines t c) need k in
      map-contains (λ (u : LinedNode). u.node) all (record { node = need.node; line = line.0 })
      (ranked.whole (record { node = need.node; line = line.0 })
      (needed t.node need.node (ranked.inside t c) (map-contains (λ (n : Need). n.node) (needs_of selection t.node) need k)) line.1)

  are_among : (m : Node) → Contains (nodes_of all) m → Contains keys m
  are_among m c = let from = contains-map (λ (t : LinedNode). t.node) all m c in subst (Contains keys) from.2 (reached_node from.0 from.1)

  -- the ranks of these nodes and their graph are made by places
  module _ (items : List PlacedLine) (is : map lined_of items ≡ all) (at : (p : PlacedLine) → Contains items p → p.place ≡ place_of keys p.lined.node) where
    row_is : (p : PlacedLine) → Contains items p → ranked_row reached.places (ranks_after keys all) p ≡ row_of (nodes_of all) (needs_of selection p.lined.node)
    row_is p c =
        let t = p.lined in
        let ranks = ranks_after keys all in
        let needs = needs_of selection t.node in
        let among = subst (λ l. Contains l t) is (map-contains lined_of items p c) in
        let stands = at_place keys t.node (reached_node t among) in
        let row : get_or reached.places p.place [] ≡ row_of keys needs =
        ap (λ k. get_or reached.places k []) (at p c) ∙ ap (λ g. get_or g (place_of keys t.node) []) are.places
        ∙ places_at selection reached are (place_of keys t.node) stands.within ∙ ap (λ n. row_of keys (needs_of selection n)) stands.is in
        ap (map (rank_of ranks)) row
        ∙ map-map (λ (n : Need). place_of keys n.node) (rank_of ranks) needs
        ∙ map-on (λ (n : Need). rank_of ranks (place_of keys n.node)) (λ (n : Need). place_of (nodes_of all) n.node) needs
        (λ need k. rank_is keys all need.node are_among ranked.once (need_told t among need k))

    graph_is : map (ranked_row reached.places (ranks_after keys all)) items ≡ graph_of selection all
    graph_is =
        let row = λ (t : LinedNode). row_of (nodes_of all) (needs_of selection t.node) in
        map-on (ranked_row reached.places (ranks_after keys all)) (λ (p : PlacedLine). row p.lined) items row_is
        ∙ sym (map-map lined_of row items) ∙ ap (map row) is

    pub made_graph : (ranks : List ℕ) (graph : List (List ℕ)) → ranks ≡ ranks_by (replicate (length keys) 0) 0 items
        → graph ≡ map (ranked_row reached.places ranks) items → graph ≡ graph_of selection all
    made_graph ranks graph ranks_are graph_are =
        graph_are
        ∙ ap (λ r. map (ranked_row reached.places r) items) (ranks_are ∙ same_ranks keys (replicate (length keys) 0) 0 items at ∙ ap (ranks_after keys) is)
        ∙ graph_is

  pub graph_count : length (graph_of selection all) ≡ length all
  graph_count = length-map all (λ (t : LinedNode). row_of (nodes_of all) (needs_of selection t.node))

  within : (row : List ℕ) → Contains (graph_of selection all) row → (v : ℕ) → Contains row v → v < length (graph_of selection all)
  within row c v k =
      let t = contains-map (λ (t : LinedNode). row_of (nodes_of all) (needs_of selection t.node)) all row c in
      let need = contains-map (λ (n : Need). place_of (nodes_of all) n.node) (needs_of selection t.0.node) v (subst (λ r. Contains r v) (sym t.2) k) in
      let at = at_place (nodes_of all) need.0.node (need_told t.0 t.1 need.0 need.1) in
      subst (λ n. n < length (graph_of selection all)) need.2
      (subst (λ n. place_of (nodes_of all) need.0.node < n) (length-map all (λ (u : LinedNode). u.node) ∙ sym graph_count) at.within)

  pub is_graph : IsGraph (graph_of selection all)
  is_graph = all-where (All (λ v. v < length (graph_of selection all))) (graph_of selection all) (λ row c. all-where (λ v. v < length (graph_of selection all)) row (within row c))

  -- a build order has places of these nodes only
  pub places_within : (places : List ℕ) → IsBuildOrder (graph_of selection all) places → All (λ place. place < length all) places
  places_within places build = subst (λ n. All (λ place. place < n) places) graph_count (all_within (graph_of selection all) places build)
