use Rattle.std.proofs.Common.{◌≡◌, ◌<◌, ◌+◌, ℕ, List, length, take, get_or, sym, subst, ap, ◌∙◌, arith}
use Rattle.std.proofs.lemmas.List.{length-set}
use Rattle.plan_jobs.specs.Board.{times}
use Rattle.plan_jobs.proofs.Counts.{less_by_one, still_open}
use Rattle.plan_jobs.proofs.meeting.count_down.Goals as goal

pub count_down_one-requires-clause-open : goal.count_down_one-requires-clause-open
count_down_one-requires-clause-open c =
    let user = get_or c.args.users.now c.loop-user.user-index 0 in
    still_open c.args.users.now c.loop-user.unmet c.args.unmet.now c.loop-user.user-index c.loop-user-test.true (c.requires.open user) (c.loop-user.invariant.less user)

pub loop-user-preserved : goal.loop-user-preserved
loop-user-preserved c =
    let users = c.args.users.now in
    let k = c.loop-user.user-index in
    let user = get_or users k 0 in
    let inv = c.loop-user.invariant in
    let e = c.count_down_one.ensures in
    let inside : user < length c.loop-user.unmet =
    let a = c.requires.within k 0 c.loop-user-test.true in let b = c.requires.count in let d = inv.count in omega (arith, a, b, d) in
    record {
      count = ap length e.less ∙ length-set c.loop-user.unmet user _ ∙ inv.count;
      room = e.room ∙ inv.room;
      less = λ other. subst (λ (unmet : List ℕ). get_or unmet other 0 + times other (take (k + 1) users) ≡ get_or c.args.unmet.now other 0) (sym e.less)
          (less_by_one users c.loop-user.unmet c.args.unmet.now k c.loop-user-test.true inside
          (still_open users c.loop-user.unmet c.args.unmet.now k c.loop-user-test.true (c.requires.open user) (inv.less user)) inv.less other);
      ready = e.ready;
    }
