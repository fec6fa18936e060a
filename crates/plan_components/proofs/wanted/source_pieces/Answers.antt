use Rattle.std.proofs.Common.{◌≡◌, List, ap, ◌∙◌, subst}
use Rattle.std.specs.Result.{IfOk}
use Rattle.plan_types.specs.declared.condition.FlagSet.{FlagSet}
use Rattle.qualified_goals.specs.declared.variable.Qual.TheVariants.{Top}
use Rattle.plan_components.specs.declared.node.Node.{Node}
use Rattle.plan_components.specs.Chosen.{chosen_flags, selection_of}
use Rattle.plan_components.specs.Wanted.{as_pieces, first_places, is_wanted_under}
use Rattle.plan_components.proofs.wanted.source_pieces.Goals as goal

pub returns : goal.returns
returns c =
    let selection = selection_of c.args.chosen.now in
    let components = c.args.d.now.components in
    let node = c.node_of-node.result in
    let flags = c.in_ok-known.known.flags in
    let all = c.in_ok-known.ensures.flags ∙ ap (λ (n : Node). chosen_flags selection n.qual n.«package» c.args.d.now) c.node_of-node.ensures in
    let by_node = ap (λ (n : Node). first_places c.args.local (is_wanted_under selection n.qual n.«package» flags) components) c.node_of-node.ensures in
    let by_flags = ap (λ (flags : List FlagSet). first_places c.args.local (is_wanted_under selection Top c.args.package flags) components) all in
    let places = c.in_ok-places.ensures ∙ (ap (first_places c.args.local (is_wanted_under selection node.qual node.«package» flags)) c.as_slice.ensures ∙ (by_node ∙ by_flags)) in
    subst (λ ps. IfOk c.as_pieces.result (λ pieces. pieces ≡ as_pieces c.args.d.now.custom ps)) (c.as_slice-2.ensures ∙ places) c.as_pieces.ensures
