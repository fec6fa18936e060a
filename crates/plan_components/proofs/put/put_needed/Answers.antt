use Rattle.std.proofs.Common.{◌∷◌, [], ◌++◌, inr, take, sym, ◌∙◌}
use Rattle.std.proofs.lemmas.List.{map_more}
use Rattle.common_laws.specs.Lists.{map-contains}
use Rattle.plan_types.specs.declared.dependency.DepKind.TheVariants.{Library}
use Rattle.plan_components.specs.declared.node.Need.{Need}
use Rattle.plan_components.specs.SameNode.{place_of}
use Rattle.plan_components.specs.Steps.{no_node}
use Rattle.plan_components.proofs.AddedNodes.{puts_more, puts_none}
use Rattle.plan_components.proofs.NeedPlaces.{row_kept}
use Rattle.plan_components.proofs.put.put_needed.Goals as goal

-- the need that is read beyond the last
no_need : Need
no_need = record { kind = Library; node = no_node }

pub loop-need-init : goal.loop-need-init
loop-need-init c = record { put = puts_none c.args.nodes.now.keys; places = c.new-places.ensures }

pub loop-need-preserved : goal.loop-need-preserved
unfolding no_need
loop-need-preserved c =
    let needs = c.args.needs.now in
    let i = c.loop-need.need-index in
    let nodes = c.loop-need.nodes.keys in
    let new = c.put.new.nodes.keys in
    let so_far = c.loop-need.invariant in
    let grown = c.in_ok-place.ensures.put in
    record {
      put = puts_more (λ (n : Need). n.node) needs i no_need c.loop-need-test.true c.args.nodes.now.keys nodes new so_far.put grown;
      places = c.in_ok-push.ensures.ok
          ∙ (λ j. (so_far.places ∙ row_kept nodes grown.more new grown.grown (take i needs)
          (λ need k. (so_far.put.members need.node).1 (inr (map-contains (λ (n : Need). n.node) (take i needs) need k)))) j ++ c.in_ok-place.ensures.place j ∷ [])
          ∙ sym (map_more (λ (n : Need). place_of new n.node) needs i no_need c.loop-need-test.true);
    }
