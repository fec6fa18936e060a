use Rattle.std.proofs.Common.{◌≡◌, ◌<◌, ◌++◌, [], ◌∷◌, length, sym, subst}
use Rattle.std.specs.Prelude.{All, count_by}
use Rattle.std.proofs.lemmas.List.{get_or_read}
use Rattle.plan_nodes.specs.Line.{no_line}
use Rattle.plan_nodes.specs.declared.node.PlanNode.{PlanNode}
use Rattle.plan_jobs.specs.Events.{node_at}
use Rattle.plan_jobs.specs.Building.{AddsPlace, first_state, listed_places}
use Rattle.plan_jobs.specs.Board.{is_open, with_user}
use Rattle.plan_jobs.proofs.Reading.{wanted_within, read_one, all_read}
use Rattle.plan_jobs.proofs.needs.Needs.of.Goals as goal

pub add-requires-clause-listed_places : goal.add-requires-clause-listed_places
add-requires-clause-listed_places c =
    let inv = c.loop-node.invariant in
    subst (λ n. All (λ place. place < n) (listed_places c.loop-node.needs.places c.node-item.result)) (sym inv.reached)
    (wanted_within c.args.nodes.now c.loop-node.node-index c.loop-node.needs inv c.node-item.result)

pub loop-node-preserved : goal.loop-node-preserved
loop-node-preserved c =
    let nodes = c.args.nodes.now in
    let k = c.loop-node.node-index in
    let old = c.loop-node.needs in
    let new = c.add.new.self in
    let inv = c.loop-node.invariant in
    let e = c.in_ok-add.ensures in
    let is : c.node-item.result ≡ node_at nodes k = get_or_read nodes k c.node-item.result c.loop-node-test.true c.node-item.is no_line in
    read_one nodes k old inv new c.loop-node-test.true
    (subst (λ n. AddsPlace old.places (node_at nodes k).id n new.places) inv.reached (subst (λ (node : PlanNode). AddsPlace old.places node.id (length old.states) new.places) is e.places))
    (subst (λ n. new.users.items ≡ with_user n old.users.items (listed_places old.places (node_at nodes k)) ++ [] ∷ []) inv.reached
    (subst (λ (node : PlanNode). new.users.items ≡ with_user (length old.states) old.users.items (listed_places old.places node) ++ [] ∷ []) is e.users))
    (subst (λ (node : PlanNode). new.states ≡ old.states ++ first_state node ∷ []) is e.states)
    (subst (λ (node : PlanNode). new.unmet ≡ old.unmet ++ count_by (is_open old.states) (listed_places old.places node) ∷ []) is e.unmet)

pub returns : goal.returns
returns c = all_read c.args.nodes.now c.loop-node.node-index c.loop-node.needs c.loop-node-test.false c.loop-node.auto.node-index-end c.loop-node.invariant
