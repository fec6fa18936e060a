use Rattle.std.proofs.Common.{◌<◌, length, sym, subst, ap, ◌∙◌}
use Rattle.std.specs.List.{All}
use Rattle.std.proofs.lemmas.Result.{IfOk-weaker}
use Rattle.build_order.specs.Order.{IsBuildOrder}
use Rattle.common_laws.specs.Graphs.{IsGraph}
use Rattle.plan_components.specs.Chosen.{selection_of}
use Rattle.node_lines.specs.Along.{lines_along}
use Rattle.node_lines.specs.Lines.{AreLines}
use Rattle.node_lines.proofs.LineMaking.{all_inside, are_lines}
use Rattle.node_lines.proofs.NodePlaces.{is_graph}
use Rattle.node_lines.proofs.lines.lines_of.Goals as goal

pub build_order-requires : goal.build_order-requires
build_order-requires c =
    let selection = selection_of c.args.chosen.now in
    subst IsGraph (sym (c.as_slice.ensures ∙ c.requires.places)) (is_graph selection c.args.reached.now c.requires)

pub lines_along-requires-clause-within : goal.lines_along-requires-clause-within
lines_along-requires-clause-within c =
    let selection = selection_of c.args.chosen.now in
    let build = subst (λ g. IsBuildOrder g c.in_ok-order.order) (c.as_slice.ensures ∙ c.requires.places) c.in_ok-order.ensures in
    subst (All (λ u. u < length c.args.reached.now.set.keys)) (sym c.as_slice-2.ensures) (all_inside selection c.args.reached.now c.requires c.in_ok-order.order build)

pub lines_along-requires-clause-places : goal.lines_along-requires-clause-places
lines_along-requires-clause-places c = c.requires.places

pub returns : goal.returns
returns c =
    let selection = selection_of c.args.chosen.now in
    let build = subst (λ g. IsBuildOrder g c.in_ok-order.order) (c.as_slice.ensures ∙ c.requires.places) c.in_ok-order.ensures in
    IfOk-weaker c.lines_along.result _ _
    (λ lines e. subst (AreLines selection c.args.reached.now.set.keys) (sym (e ∙ ap (lines_along selection c.args.reached.now) c.as_slice-2.ensures)) (are_lines selection c.args.reached.now c.requires c.in_ok-order.order build))
    c.lines_along.ensures
