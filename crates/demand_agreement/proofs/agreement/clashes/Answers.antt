use Rattle.std.proofs.Common.{◌≡◌, ◌++◌, map, get_or, ap, sym, ◌∙◌, arith}
use Rattle.std.proofs.lemmas.Grind.{common_steps}
use Rattle.std.proofs.lemmas.Option.{get_or_from_slice_get}
use Rattle.choice_problem.specs.General.{owner_of}
use Rattle.demand_agreement.specs.Clashes.{clash_of, clashes_at, clashing}
use Rattle.demand_agreement.specs.Places.{demand_at, no_demand}
use Rattle.demand_agreement.proofs.NumberBounds.{below-at}
use Rattle.demand_agreement.proofs.agreement.clashes.Goals as goal

pub demand_at-requires : goal.demand_at-requires
demand_at-requires g c = below-at _ c.args.places.now c.loop-place.place-index c.requires c.loop-place-test.true

pub loop-place-preserved : goal.loop-place-preserved
loop-place-preserved g c =
    let trail = c.args.trail.now in
    let demands = g.A.Asked.demands c.args.asked.now in
    let place = get_or c.args.places.now c.loop-place.place-index 0 in
    let demand : demand_at demands place ≡ c.demand_at.result.now = get_or_from_slice_get demands place c.demand_at.result.now no_demand c.demand_at.ensures in
    let others : c.as_slice.result.now ≡ clashing trail demands (owner_of (demand_at demands place).when) (demand_at demands place).target =
    c.as_slice.ensures.value ∙ c.in_ok-others.ensures ∙ (λ i. clashing trail demands (owner_of (sym demand i).when) (sym demand i).target) in
    let more : c.push_pairs.new.found.items ≡ c.loop-place.found.items ++ clashes_at trail demands place =
    c.in_ok-push_pairs.ensures ∙ ap (λ o. c.loop-place.found.items ++ map (clash_of place) o) others in
    grind (arith, common_steps, more)
