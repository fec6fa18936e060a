use Rattle.std.proofs.Common.{◌≡◌, ◌∙◌, Some, None, arith, sym, ap}
use Rattle.choice_problem.specs.Conflict.{set_of_pair}
use Rattle.demand_agreement.specs.Clashes.{clashes, least}
use Rattle.demand_agreement.proofs.First.{some-found, first-found, none-found}
use Rattle.demand_agreement.proofs.agreement.agreement_set_of.Goals as goal

pub set_named-requires-clause-earlier : goal.set_named-requires-clause-earlier
set_named-requires-clause-earlier g c =
    let demands = g.A.Asked.demands c.args.asked.now in
    let found : least (clashes c.args.trail.now demands c.args.places.now) ≡ Some c.in-Some.clash =
    ap least (sym (c.as_slice.ensures.value ∙ c.in_ok-found.ensures)) ∙ sym c.least.ensures ∙ c.in-Some.is in
    let pair = (some-found c.args.trail.now demands c.requires.active c.args.places.now c.requires.within c.requires.suspects c.in-Some.clash found).pair in
    omega (arith, pair.order, pair.within)

pub set_named-requires-clause-later : goal.set_named-requires-clause-later
set_named-requires-clause-later g c =
    let demands = g.A.Asked.demands c.args.asked.now in
    let found : least (clashes c.args.trail.now demands c.args.places.now) ≡ Some c.in-Some.clash =
    ap least (sym (c.as_slice.ensures.value ∙ c.in_ok-found.ensures)) ∙ sym c.least.ensures ∙ c.in-Some.is in
    (some-found c.args.trail.now demands c.requires.active c.args.places.now c.requires.within c.requires.suspects c.in-Some.clash found).pair.within

pub returns-in-Some : goal.returns-in-Some
returns-in-Some g c =
    let demands = g.A.Asked.demands c.args.asked.now in
    let found : least (clashes c.args.trail.now demands c.args.places.now) ≡ Some c.in-Some.clash =
    ap least (sym (c.as_slice.ensures.value ∙ c.in_ok-found.ensures)) ∙ sym c.least.ensures ∙ c.in-Some.is in
    ap Some c.in_ok-set-in-Some.ensures
    ∙ ap set_of_pair (sym (first-found c.args.trail.now demands c.requires.active c.args.places.now c.requires.within c.requires.suspects c.in-Some.clash found))

pub returns : goal.returns
returns g c =
    let demands = g.A.Asked.demands c.args.asked.now in
    let found : least (clashes c.args.trail.now demands c.args.places.now) ≡ None =
    ap least (sym (c.as_slice.ensures.value ∙ c.in_ok-found.ensures)) ∙ sym c.least.ensures ∙ c.in-None.is in
    ap set_of_pair (sym (none-found c.args.trail.now demands c.requires.active c.args.places.now c.requires.within c.requires.suspects found))
