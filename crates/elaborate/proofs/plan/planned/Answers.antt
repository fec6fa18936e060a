use Rattle.std.proofs.Common.{◌≢◌, ◌<◌, length, map, replicate, sym, ap, ◌∙◌, subst}
use Rattle.std.specs.List.{All, AllPairs}
use Rattle.std.specs.List.Sorted.{IsPermutation}
use Rattle.std.proofs.lemmas.Result.{IfOk-weaker}
use Rattle.plan_nodes.specs.Once.{each_line_once}
use Rattle.plan_components.specs.Chosen.{selection_of}
use Rattle.elaborate.specs.Plan.{line_at}
use Rattle.elaborate.specs.Ranks.{ranked_row, ranks_by}
use Rattle.elaborate.specs.Telling.{lined_of, placed_lines}
use Rattle.elaborate.proofs.LinesLeft.{each-once}
use Rattle.elaborate.proofs.PlacedLines.{are_ranked, in_order, is_graph, places_within}
use Rattle.elaborate.proofs.plan.planned.Goals as goal

pub build_order-requires : goal.build_order-requires
build_order-requires c =
    let reached = c.in_ok-reached.reached in
    let items = c.sort_placed.new.all.items in
    let moved = subst (λ l. IsPermutation l items) (c.in_ok-all.ensures ∙ ap (λ nodes. placed_lines nodes c.in_ok-lines.lines) c.nodes.ensures) c.sort_placed.ensures.permutation in
    let ranks = c.as_slice-3.ensures.value ∙ c.in_ok-ranks.ensures ∙ ap (ranks_by (replicate (length reached.set.keys) 0) 0) c.as_slice.ensures.value in
    let graph = c.as_slice-5.ensures ∙ c.in_ok-graph.ensures ∙ (λ j. map (ranked_row (c.as_slice-2.ensures j) c.as_slice-3.result.now) (c.as_slice-4.ensures.value j)) in
    is_graph (selection_of c.args.chosen.now) reached c.in_ok-reached.ensures c.in_ok-lines.lines c.in_ok-lines.ensures items moved c.in_ok-sort_placed.ensures.sorted c.as_slice-3.result.now c.as_slice-5.result.now ranks graph

pub lines_at-requires-clause-within : goal.lines_at-requires-clause-within
lines_at-requires-clause-within c =
    let reached = c.in_ok-reached.reached in
    let items = c.sort_placed.new.all.items in
    let moved = subst (λ l. IsPermutation l items) (c.in_ok-all.ensures ∙ ap (λ nodes. placed_lines nodes c.in_ok-lines.lines) c.nodes.ensures) c.sort_placed.ensures.permutation in
    let ranks = c.as_slice-3.ensures.value ∙ c.in_ok-ranks.ensures ∙ ap (ranks_by (replicate (length reached.set.keys) 0) 0) c.as_slice.ensures.value in
    let graph = c.as_slice-5.ensures ∙ c.in_ok-graph.ensures ∙ (λ j. map (ranked_row (c.as_slice-2.ensures j) c.as_slice-3.result.now) (c.as_slice-4.ensures.value j)) in
    subst (All (λ place. place < length items)) (sym c.as_slice-6.ensures)
    (places_within (selection_of c.args.chosen.now) reached c.in_ok-reached.ensures c.in_ok-lines.lines c.in_ok-lines.ensures items moved c.in_ok-sort_placed.ensures.sorted c.as_slice-3.result.now c.as_slice-5.result.now ranks graph c.in_ok-places.places c.in_ok-places.ensures)

pub lines_at-requires-clause-once : goal.lines_at-requires-clause-once
lines_at-requires-clause-once c =
    subst (AllPairs (λ a b. a ≢ b)) (sym c.as_slice-6.ensures) (each-once c.as_slice-5.result.now c.in_ok-places.places c.in_ok-places.ensures)

pub returns : goal.returns
returns c =
    let reached = c.in_ok-reached.reached in
    let items = c.sort_placed.new.all.items in
    let moved = subst (λ l. IsPermutation l items) (c.in_ok-all.ensures ∙ ap (λ nodes. placed_lines nodes c.in_ok-lines.lines) c.nodes.ensures) c.sort_placed.ensures.permutation in
    let ranks = c.as_slice-3.ensures.value ∙ c.in_ok-ranks.ensures ∙ ap (ranks_by (replicate (length reached.set.keys) 0) 0) c.as_slice.ensures.value in
    let graph = c.as_slice-5.ensures ∙ c.in_ok-graph.ensures ∙ (λ j. map (ranked_row (c.as_slice-2.ensures j) c.as_slice-3.result.now) (c.as_slice-4.ensures.value j)) in
    let places = c.in_ok-places.places in
    IfOk-weaker c.each_line_once.result _ _
    (λ kept e. record {
      all = map lined_of items;
      ranked = are_ranked (selection_of c.args.chosen.now) reached c.in_ok-reached.ensures c.in_ok-lines.lines c.in_ok-lines.ensures items moved c.in_ok-sort_placed.ensures.sorted;
      places = places;
      in_order = in_order (selection_of c.args.chosen.now) reached c.in_ok-reached.ensures c.in_ok-lines.lines c.in_ok-lines.ensures items moved c.in_ok-sort_placed.ensures.sorted c.as_slice-3.result.now c.as_slice-5.result.now ranks graph places c.in_ok-places.ensures;
      lines_are = e ∙ ap each_line_once (c.in_ok-lines-2.ensures ∙ ap (map (line_at (map lined_of items))) c.as_slice-6.ensures);
    })
    c.each_line_once.ensures
