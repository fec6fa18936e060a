use Rattle.std.proofs.Common.{◌≡◌, ◌∙◌, sym, ap, true, false, arith}
use Rattle.std.specs.List.{remove}
use Rattle.choice_problem.specs.ConflictSet.{is_rising, has, place_of}
use Rattle.choice_problem.proofs.RisingVariables.{there-within, removed, rising-without, without-none}
use Rattle.choice_problem.proofs.conflict_set.take_out.Goals as goal

pub remove-requires : goal.remove-requires
remove-requires c =
    let place : c.place_of-place.result ≡ place_of c.args.v c.args.vars.now.items = cc in
    let here : has c.args.vars.now.items c.args.v ≡ true = cc in
    omega (arith, place, there-within c.args.v c.args.vars.now.items c.requires here)

pub returns-then-stands_at-clause-set : goal.returns-then-stands_at-clause-set
returns-then-stands_at-clause-set c =
    let place : c.place_of-place.result ≡ place_of c.args.v c.args.vars.now.items = cc in
    let here : has c.args.vars.now.items c.args.v ≡ true = cc in
    c.remove.ensures.items ∙ ap (remove c.args.vars.now.items) place ∙ removed c.args.v c.args.vars.now.items c.requires here

pub returns-then-stands_at-clause-rising : goal.returns-then-stands_at-clause-rising
returns-then-stands_at-clause-rising c = ap is_rising (returns-then-stands_at-clause-set c) ∙ rising-without c.args.v c.args.vars.now.items c.requires

pub returns-else-stands_at-clause-set : goal.returns-else-stands_at-clause-set
returns-else-stands_at-clause-set c =
    let other : has c.args.vars.now.items c.args.v ≡ false = cc in
    sym (without-none c.args.v c.args.vars.now.items other)
