use Rattle.std.proofs.Common.{[], ◌∙◌}
use Rattle.std.proofs.lemmas.List.{get_or_read}
use Rattle.broken_units.proofs.Table.{users_none, users_one, users_all}
use Rattle.broken_units.proofs.users.users_of.Goals as goal

pub loop-user-init : goal.loop-user-init
loop-user-init c = users_none c.args.needs.now c.in_ok-users.users.items c.in_ok-users.ensures.length c.in_ok-users.ensures.none

pub loop-user-preserved : goal.loop-user-preserved
loop-user-preserved c =
    users_one c.args.needs.now c.loop-user.users.items c.add_user.new.users.items c.loop-user.user c.as_slice.result.now
    (c.as_slice.ensures ∙ get_or_read c.args.needs.now c.loop-user.user _ c.loop-user-test.true c.index-needs-user.is [])
    c.loop-user.invariant (c.in_ok-add_user.ensures.length, c.in_ok-add_user.ensures.users)

pub returns : goal.returns
returns c = users_all c.args.needs.now c.loop-user.users.items c.loop-user.user c.loop-user-test.false c.loop-user.invariant
