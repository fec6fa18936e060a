use Rattle.std.proofs.Common.{subst, take_all, refl}
use Rattle.broken_units.proofs.Table.{With, with_none, with_one}
use Rattle.broken_units.proofs.users.add_user.Goals as goal

pub loop-node-init : goal.loop-node-init
loop-node-init c = with_none c.args.users.now.items c.args.user c.args.nodes.now

pub loop-node-preserved : goal.loop-node-preserved
loop-node-preserved c =
    with_one c.args.users.now.items c.args.user c.args.nodes.now c.loop-node.users.items c.add_to.new.users.items c.loop-node.node-index _ c.loop-node-test.true refl
    c.loop-node.invariant c.in_ok-add_to.ensures.length c.in_ok-add_to.ensures.users

pub returns-clause-users : goal.returns-clause-users
returns-clause-users c =
    let all = take_all c.loop-node.node-index c.args.nodes.now c.loop-node-test.false in
    (subst (λ gone. With c.args.users.now.items c.args.user c.args.nodes.now c.loop-node.users.items gone) all c.loop-node.invariant).1
