use Rattle.std.proofs.Common.{◌≡◌, ◌∙◌, sym, ap, true, false, insert, arith}
use Rattle.choice_problem.specs.ConflictSet.{has, place_of}
use Rattle.choice_problem.proofs.VariableSets.{place-within}
use Rattle.choice_problem.proofs.RisingVariables.{with-there, inserted}
use Rattle.choice_problem.proofs.conflict_set.add.Goals as goal

pub returns-then-stands_at : goal.returns-then-stands_at
returns-then-stands_at c =
    let here : has c.args.vars.now.items c.args.v ≡ true = cc in
    sym (with-there c.args.v c.args.vars.now.items c.requires here)

pub insert-requires : goal.insert-requires
insert-requires c =
    let place : c.place_of-place.result ≡ place_of c.args.v c.args.vars.now.items = cc in
    omega (arith, place, place-within c.args.v c.args.vars.now.items)

pub returns : goal.returns
returns c =
    let place : c.place_of-place.result ≡ place_of c.args.v c.args.vars.now.items = cc in
    let other : has c.args.vars.now.items c.args.v ≡ false = cc in
    c.in_ok-insert.ensures.items ∙ ap (λ n. insert c.args.vars.now.items n c.args.v) place ∙ inserted c.args.v c.args.vars.now.items other
