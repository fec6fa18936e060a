use Rattle.std.proofs.Common.{◌<◌, ◌≤◌, ◌∷◌, [], ◌++◌, length, map, sym, subst, ap, ◌∙◌, arith}
use Rattle.plan_components.specs.declared.node.Need.{Need}
use Rattle.plan_components.specs.Chosen.{selection_of}
use Rattle.plan_components.specs.Needs.{needed_nodes, needs_of}
use Rattle.plan_components.specs.Places.{graph_of, row_of}
use Rattle.plan_components.specs.Steps.{AppendsNew, node_at}
use Rattle.plan_components.proofs.SameNodes.{differ}
use Rattle.plan_components.proofs.NodeWalk.{Keeps, all_needs, each_reached, here_is, keeps_first, keeps_next, places_next}
use Rattle.plan_components.proofs.reached.reach.Goals as goal

pub loop-alloc-init : goal.loop-alloc-init
loop-alloc-init c =
    let selection = selection_of c.args.chosen.now in
    let nodes = c.in_ok-set.set.keys in
    record {
      keeps = subst (Keeps selection nodes) (sym c.new-needs.ensures) (keeps_first selection nodes c.in_ok-set.ensures);
      places = c.new-places.ensures ∙ ap (graph_of nodes) (sym c.new-needs.ensures);
      last = tt;
    }

pub loop-alloc-preserved : goal.loop-alloc-preserved
loop-alloc-preserved c =
    let selection = selection_of c.args.chosen.now in
    let nodes = c.loop-alloc.set.keys in
    let new = c.put_needed.new.nodes.keys in
    let needs = c.loop-alloc.needs in
    let needed = c.in_ok-needed.needed in
    let test = c.loop-alloc-test.true in
    let l = c.len.ensures in
    let m = c.len-in-loop-alloc.ensures.len in
    let within : length needs < length nodes = omega (arith, test, l, m) in
    let node = here_is nodes c.len-in-loop-alloc-2.result c.index-node.result.now c.index-node.ensures ∙ ap (node_at nodes) c.len-in-loop-alloc-2.ensures in
    let needed_is = c.in_ok-needed.ensures.needs ∙ ap (needs_of selection) node in
    let put : AppendsNew (needed_nodes selection (node_at nodes (length needs))) nodes new =
    subst (λ row. AppendsNew (map (λ (n : Need). n.node) row) nodes new) (c.as_slice.ensures ∙ needed_is) c.in_ok-row.ensures.put in
    record {
      keeps = subst (Keeps selection new) (sym c.in_ok-push.ensures.ok) (keeps_next selection nodes new needs needed c.loop-alloc.invariant.keeps within needed_is put);
      places = c.in_ok-push-2.ensures.ok
          ∙ (λ j. c.loop-alloc.invariant.places j ++ (c.in_ok-row.ensures.places ∙ ap (row_of new) c.as_slice.ensures) j ∷ [])
          ∙ places_next selection nodes put.more new needs needed c.loop-alloc.invariant.keeps put.grown
          ∙ ap (graph_of new) (sym c.in_ok-push.ensures.ok);
      last = c.in_ok-needed.ensures.last;
    }

pub returns : goal.returns
returns c =
    let selection = selection_of c.args.chosen.now in
    let test = c.loop-alloc-test.false in
    let l = c.len.ensures in
    let m = c.len-in-loop-alloc.ensures.len in
    let over : length c.loop-alloc.set.keys ≤ length c.loop-alloc.needs = omega (arith, test, l, m) in
    record {
      once = differ c.loop-alloc.set.keys c.len-in-loop-alloc.ensures.unique;
      each = each_reached selection c.loop-alloc.set.keys c.loop-alloc.needs c.loop-alloc.invariant.keeps over;
      needs = all_needs selection c.loop-alloc.set.keys c.loop-alloc.needs c.loop-alloc.invariant.keeps over;
      places = c.loop-alloc.invariant.places;
    }
