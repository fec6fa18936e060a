use Rattle.std.proofs.Common.{take, sym, subst}
use Rattle.std.proofs.lemmas.List.{take_more}
use Rattle.plan_jobs.specs.Board.{MarksUsers}
use Rattle.plan_jobs.proofs.Spread.{holds_both}
use Rattle.plan_jobs.proofs.holding.hold_users.Goals as goal

pub loop-user-preserved : goal.loop-user-preserved
loop-user-preserved c =
    let i = c.loop-user.user-index in
    let users = c.args.users.now in
    subst (λ front. MarksUsers front c.args.states.now c.args.held.now c.hold_user.new.held c.args.to_go.now c.hold_user.new.to_go) (sym (take_more users i 0 c.loop-user-test.true))
    (holds_both (take i users) _ c.args.states.now c.args.held.now c.loop-user.held c.hold_user.new.held c.args.to_go.now c.loop-user.to_go c.hold_user.new.to_go c.loop-user.invariant c.hold_user.ensures)
