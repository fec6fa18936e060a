use Rattle.std.proofs.Common.{◌≡◌, ◌+◌, [], drop, get_or, None, sym, ap, ◌∙◌}
use Rattle.std.proofs.lemmas.List.{get_or-map, get_or_default}
use Rattle.common_laws.specs.Lists.{drop_at}
use Rattle.plan_types.specs.declared.dependency.DepKind.TheVariants.{Library}
use Rattle.plan_nodes.specs.declared.node.PlanNode.{PlanNode}
use Rattle.plan_components.specs.declared.node.Need.{Need}
use Rattle.plan_components.specs.Places.{row_of}
use Rattle.plan_components.specs.SameNode.{place_of}
use Rattle.plan_components.specs.Steps.{no_node}
use Rattle.node_lines.specs.Gather.{added, gather_from, gathered, line_at, needed_of, with_line}
use Rattle.node_lines.proofs.gather.gather.Goals as goal

-- the need that is read beyond the last
no_need : Need
no_need = record { kind = Library; node = no_node }

pub returns-in-None : goal.returns-in-None
unfolding no_need
returns-in-None c =
    let keys = c.args.reached.now.set.keys in
    let all_needs = c.args.reached.now.needs in
    let place = c.args.place in
    let needs = c.as_slice-needs.result.now in
    let k = c.loop-k.k in
    let test = c.loop-k-test.true in
    let need = get_or needs k no_need in
    let lines = line_at keys c.args.lines.now in
    let so_far = needed_of c.loop-k.sets in
    let needs_is : needs ≡ get_or all_needs place [] =
    c.as_slice-needs.ensures ∙ c.index-as_slice-place.is ∙ ap (λ l. get_or l place c.index-as_slice-place.result) c.as_slice.ensures
    ∙ get_or_default all_needs place c.index-as_slice-place.result [] c.requires.within in
    let places_are : c.as_slice-places.result.now ≡ row_of keys needs =
    c.as_slice-places.ensures ∙ c.index-as_slice-place-2.is ∙ ap (λ l. get_or l place c.index-as_slice-place-2.result) (c.as_slice-2.ensures ∙ c.requires.places)
    ∙ get_or-map (row_of keys) all_needs place [] c.index-as_slice-place-2.result c.requires.within ∙ ap (row_of keys) (sym needs_is) in
    let place_is : get_or c.as_slice-places.result.now k 0 ≡ place_of keys need.node =
    ap (λ l. get_or l k 0) places_are ∙ get_or-map (λ (n : Need). place_of keys n.node) needs k no_need 0 test in
    ap (λ o. with_line o (λ (line : PlanNode). gather_from lines (added so_far need.kind line.id) (drop (k + 1) needs)))
    (c.in-None.ensures ∙ ap (λ p. get_or c.args.lines.now p None) place_is)
    ∙ ap (gather_from lines so_far) (sym (drop_at needs k need test (get_or_default needs k no_need need test)))
    ∙ c.loop-k.invariant ∙ ap (gathered lines) needs_is
