use Rattle.std.proofs.Common.{◌<◌, [], length, get_or, sym, subst, ◌∙◌, arith}
use Rattle.std.specs.Prelude.{All}
use Rattle.std.proofs.lemmas.List.{get_or_read}
use Rattle.common_laws.specs.Graphs.{IsMarked, marked_within}
use Rattle.plan_jobs.specs.Board.{MarksUsers}
use Rattle.plan_jobs.proofs.Spread.{users_within, holding_begins, holding_goes, holding_ends, fewer_left}
use Rattle.plan_jobs.proofs.holding.mark_held.Goals as goal

pub hold_users-requires-clause-within : goal.hold_users-requires-clause-within
hold_users-requires-clause-within c =
    let users = c.args.users.now in
    let lt : c.args.place < length users = let n = c.requires.begun.count in let p = c.requires.place in omega (arith, n, p) in
    let e = c.as_slice.ensures ∙ get_or_read users c.args.place _ lt c.index-users-place.is [] in
    subst (λ list. All (λ user. user < length c.args.states.now) list) (sym e) (users_within users c.args.states.now c.args.place c.requires.begun)

pub loop-next-init : goal.loop-next-init
loop-next-init c =
    let users = c.args.users.now in
    let lt : c.args.place < length users = let n = c.requires.begun.count in let p = c.requires.place in omega (arith, n, p) in
    let e = c.as_slice.ensures ∙ get_or_read users c.args.place _ lt c.index-users-place.is [] in
    holding_begins users c.args.states.now c.args.place c.requires.begun c.args.held.now c.hold_users.new.held c.args.to_go.now c.hold_users.new.to_go c.requires.idle c.requires.count
    (subst (λ list. MarksUsers list c.args.states.now c.args.held.now c.hold_users.new.held c.args.to_go.now c.hold_users.new.to_go) e c.hold_users.ensures)

pub hold_users-requires-in-Some-clause-within : goal.hold_users-requires-in-Some-clause-within
hold_users-requires-in-Some-clause-within c =
    let users = c.args.users.now in
    let next = c.in-Some.next in
    let inside = c.loop-next.invariant.within next c.in-Some.ensures.0.marked in
    let lt : next < length users = let n = c.requires.begun.count in omega (arith, n, inside) in
    let e = c.as_slice-in-Some.ensures ∙ get_or_read users next _ lt c.index-users-next.is [] in
    subst (λ list. All (λ user. user < length c.args.states.now) list) (sym e) (users_within users c.args.states.now next c.requires.begun)

pub loop-next-preserved : goal.loop-next-preserved
loop-next-preserved c =
    let users = c.args.users.now in
    let next = c.in-Some.next in
    let inv = c.loop-next.invariant in
    let m = c.in-Some.ensures.0.marked in
    let inside = inv.within next m in
    let lt : next < length users = let n = c.requires.begun.count in omega (arith, n, inside) in
    let e = c.as_slice-in-Some.ensures ∙ get_or_read users next _ lt c.index-users-next.is [] in
    let h = subst (λ list. MarksUsers list c.args.states.now c.loop-next.held c.hold_users-in-Some.new.held c.take_first.new.marks c.hold_users-in-Some.new.to_go) e c.hold_users-in-Some.ensures in
    holding_goes users c.args.states.now c.args.place c.requires.begun c.args.held.now c.loop-next.held c.hold_users-in-Some.new.held c.args.to_go.now c.loop-next.to_go c.hold_users-in-Some.new.to_go next inv m
    (marked_within c.loop-next.to_go next m)
    (subst (λ w. MarksUsers (get_or users next []) c.args.states.now c.loop-next.held c.hold_users-in-Some.new.held w c.hold_users-in-Some.new.to_go) c.in-Some.ensures.1 h)

pub loop-next-smaller : goal.loop-next-smaller
loop-next-smaller c =
    let next = c.in-Some.next in
    let m = c.in-Some.ensures.0.marked in
    fewer_left c.loop-next.held c.hold_users-in-Some.new.held c.loop-next.to_go c.hold_users-in-Some.new.to_go next c.as_slice-in-Some.result.now c.args.states.now m (marked_within c.loop-next.to_go next m)
    (subst (λ w. MarksUsers c.as_slice-in-Some.result.now c.args.states.now c.loop-next.held c.hold_users-in-Some.new.held w c.hold_users-in-Some.new.to_go) c.in-Some.ensures.1 c.hold_users-in-Some.ensures)

pub returns-clause-more : goal.returns-clause-more
returns-clause-more c =
    holding_ends c.args.users.now c.args.states.now c.args.place c.requires.begun c.args.held.now c.loop-next.held c.args.to_go.now c.loop-next.to_go c.loop-next.invariant c.in_default.ensures.0

pub returns-clause-idle : goal.returns-clause-idle
returns-clause-idle c place m = c.in_default.ensures.0 place (subst (λ marks. IsMarked marks place) c.in_default.ensures.1 m)
