-- A selection has one plan.
use Rattle.std.proofs.Common.{◌≡◌, ◌≢◌, ◌<◌, List, [], map, sym, ap, ◌∙◌, subst, arith}
use Rattle.std.specs.List.{AllPairs, Contains}
use Rattle.std.proofs.lemmas.List.{get_or-map, length-map}
use Rattle.build_order.specs.Order.{IsBuildOrder}
use Rattle.build_order.proofs.OneOrder.{same_rest}
use Rattle.plan_nodes.specs.declared.node.PlanNode.{PlanNode}
use Rattle.plan_nodes.specs.Once.{each_line_once}
use Rattle.plan_components.specs.Chosen.{Selection}
use Rattle.elaborate.specs.declared.told.LinedNode.{LinedNode}
use Rattle.elaborate.specs.Plan.{AreRanked, IsPlan, graph_of, line_at}
use Rattle.elaborate.specs.Told.{lined_cmp}
use Rattle.elaborate.proofs.NodeOrder.{told-total}
use Rattle.elaborate.proofs.Sorted.{all-after, one-list}
use Rattle.elaborate.proofs.Ties.{tie}

-- distinct images come from distinct items
once-by : {X Y : Type 0} (f : X → Y) (xs : List X) → AllPairs (λ a b. a ≢ b) (map f xs) → AllPairs (λ a b. a ≢ b) xs
once-by f xs once i j d less within same =
    let before = get_or-map f xs i d (f d) in
    let after = get_or-map f xs j d (f d) in
    once i j (f d) less (subst (λ n. j < n) (sym (length-map xs f)) within)
    (before (omega (arith, less, within)) ∙ ap f same ∙ sym (after within))

-- the nodes of one plan are those of another
among : (selection : Selection) (xs ys : List LinedNode) → AreRanked selection xs → AreRanked selection ys → (t : LinedNode) → Contains xs t → Contains ys t
among selection xs ys from to t c = to.whole t (from.inside t c) (from.lines t c)

module _ (selection : Selection) where
  one-ranked : (xs ys : List LinedNode) → AreRanked selection xs → AreRanked selection ys → xs ≡ ys
  one-ranked xs ys h k =
      one-list lined_cmp told-total xs ys (all-after lined_cmp told-total xs h.sorted) (all-after lined_cmp told-total ys k.sorted)
      (once-by (λ (t : LinedNode). t.node) xs h.once) (once-by (λ (t : LinedNode). t.node) ys k.once)
      (among selection xs ys h k) (among selection ys xs k h)
      (λ s t c d e. tie selection s t (h.lines s c) (h.lines t d) e)

  pub one-plan : (a b : List PlanNode) → IsPlan selection a → IsPlan selection b → a ≡ b
  one-plan a b h k =
      let all : h.all ≡ k.all = one-ranked h.all k.all h.ranked k.ranked in
      let places : h.places ≡ k.places =
      same_rest (graph_of selection k.all) [] h.places k.places (subst (λ l. IsBuildOrder (graph_of selection l) h.places) all h.in_order) k.in_order in
      h.lines_are ∙ ap (λ l. each_line_once (map (line_at l) h.places)) all ∙ ap (λ ps. each_line_once (map (line_at k.all) ps)) places ∙ sym k.lines_are
