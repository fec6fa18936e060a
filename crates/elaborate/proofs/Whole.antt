-- Each node that has a line is printed.
use Rattle.std.proofs.Common.{◌≡◌, ◌<◌, ◌⊎◌, inl, inr, ⊎_elim, ℕ, true, false, nat_eq, List, [], length, map, get_or, refl, sym, ap, ◌∙◌, subst}
use Rattle.std.specs.List.{Contains, list_any}
use Rattle.std.proofs.lemmas.Bool.{eq-eqb, eqb-true, false≢true}
use Rattle.std.proofs.lemmas.List.{get_or-map, length-map}
use Rattle.std.proofs.lemmas.List.Elements.{Contains-get_or}
use Rattle.common_laws.specs.Lists.{any-at, any-from, contains-map, map-contains}
use Rattle.plan_nodes.specs.declared.node.PlanNode.{PlanNode}
use Rattle.plan_nodes.specs.Line.{node_line}
use Rattle.build_order.specs.Order.{IsBuildOrder}
use Rattle.plan_components.specs.declared.node.Need.{Need}
use Rattle.plan_components.specs.declared.node.Node.{Node}
use Rattle.plan_components.specs.Chosen.{Selection}
use Rattle.plan_components.specs.Needs.{needs_of}
use Rattle.plan_components.specs.Plan.{IsInPlan, needed}
use Rattle.plan_components.specs.SameNode.{place_of}
use Rattle.plan_components.specs.Steps.{no_node}
use Rattle.node_lines.specs.Lines.{HasLine, HaveLines, told}
use Rattle.plan_components.specs.Places.{row_of}
use Rattle.node_lines.proofs.OneLine.{one}
use Rattle.node_lines.proofs.NodePlaces.{IsAt, at_place}
use Rattle.elaborate.specs.declared.told.LinedNode.{LinedNode}
use Rattle.elaborate.specs.Plan.{AreRanked, IsPlan, graph_of, line_at, no_told, nodes_of}
use Rattle.elaborate.specs.Whole.{LacksNone}
use Rattle.elaborate.proofs.NeedsBefore.{once-kept}

-- membership of a number is decidable
decide : (places : List ℕ) (u : ℕ) → Contains places u ⊎ (Contains places u → ⊥)
decide places u =
    elim (list_any (λ k. nat_eq k u) places) as (λ b. list_any (λ k. nat_eq k u) places ≡ b → Contains places u ⊎ (Contains places u → ⊥)) [
      | true ↦ λ e. let found = any-at (λ k. nat_eq k u) places e in inl (subst (Contains places) (eqb-true found.0 u found.2) found.1)
      | false ↦ λ e. inr (λ c. false≢true (sym e ∙ any-from (λ k. nat_eq k u) places u c (eq-eqb u u refl)))
    ] refl

module _ (selection : Selection) (all : List LinedNode) (ranked : AreRanked selection all) (places : List ℕ) (build : IsBuildOrder (graph_of selection all) places) where
  abbrev row : LinedNode → List ℕ
  row t = row_of (nodes_of all) (needs_of selection t.node)

  abbrev place : Node → ℕ
  place node = place_of (nodes_of all) node

  -- a node of the plan that has a line is at its place
  stands : (node : Node) (line : PlanNode) → IsInPlan selection node → HasLine selection node line → IsAt (nodes_of all) node (place node)
  stands node line plan has =
      let t : LinedNode = record { node = node; line = line } in
      at_place (nodes_of all) node (map-contains (λ (s : LinedNode). s.node) all t (ranked.whole t plan has))

  within : (node : Node) (line : PlanNode) → IsInPlan selection node → HasLine selection node line → place node < length all
  within node line plan has = subst (λ n. place node < n) (length-map all (λ (s : LinedNode). s.node)) (stands node line plan has).within

  node-there : (node : Node) (line : PlanNode) → IsInPlan selection node → HasLine selection node line → (get_or all (place node) no_told).node ≡ node
  node-there node line plan has =
      sym (get_or-map (λ (x : LinedNode). x.node) all (place node) no_told no_node (within node line plan has)) ∙ (stands node line plan has).is

  -- it is placed, since all its needs are
  placed : (node : Node) (line : PlanNode) → IsInPlan selection node → HasLine selection node line → Contains places (place node)
  placed node line plan (told n l f each is) =
      let has = told node line f each is in
      let lt = within node line plan has in
      let row-is : get_or (graph_of selection all) (place node) [] ≡ row_of (nodes_of all) (needs_of selection node) =
      get_or-map row all (place node) no_told [] lt ∙ ap (λ k. row_of (nodes_of all) (needs_of selection k)) (node-there node line plan has) in
      ⊎_elim (λ c. c) (λ out. absurd (build.whole (place node) (record {
        node = subst (λ n. place node < n) (sym (length-map all row)) lt;
        unplaced = out;
        met = λ v e.
            let found = contains-map (λ (k : Need). place k.node) (needs_of selection node) v (subst (λ r. Contains r v) row-is e) in
            let need = found.0 in
            subst (Contains places) found.2
            (placed need.node (f need.node) (needed node need.node plan (map-contains (λ (k : Need). k.node) (needs_of selection node) need found.1)) (each need found.1));
      }))) (decide places (place node))

  line-there : (node : Node) (line : PlanNode) → IsInPlan selection node → HasLine selection node line → line_at all (place node) ≡ line
  line-there node line plan has =
      let t = get_or all (place node) no_told in
      one selection node t.line line
      (subst (λ n. HasLine selection n t.line) (node-there node line plan has) (ranked.lines t (Contains-get_or all (place node) no_told (within node line plan has)))) has

  pub made : (node : Node) (line : PlanNode) → IsInPlan selection node → HasLine selection node line → Contains (map (line_at all) places) line
  made node line plan has =
      subst (Contains (map (line_at all) places)) (line-there node line plan has) (map-contains (line_at all) places (place node) (placed node line plan has))

pub lacks-none : (selection : Selection) (lines : List PlanNode) → IsPlan selection lines → HaveLines selection → LacksNone selection lines
lacks-none selection lines is have node plan =
    let line = have node plan in
    let all = map (line_at is.all) is.places in
    record {
      line = line.0;
      has = line.1;
      told = subst (λ l. Contains (map node_line l) (node_line line.0)) (sym is.lines_are)
          ((once-kept all).covers line.0 (made selection is.all is.ranked is.places is.in_order node line.0 plan line.1));
    }
