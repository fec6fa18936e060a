use Rattle.std.proofs.Common.{arith}
use Rattle.std.proofs.lemmas.Result.{on_ok_weaker}
use Rattle.broken_units.proofs.Table.{added}
use Rattle.broken_units.proofs.users.add_to.Goals as goal

pub returns-clause-users : goal.returns-clause-users
returns-clause-users c =
    let users = c.args.users.now in
    on_ok_weaker c.push.result
    (λ e. added users.items c.args.node c.args.user c.index_mut.result.now c.push.new.self (omega (arith, users.ok.0)) c.index_mut.ensures.value e)
    c.push.ensures.ok
