use Rattle.choice_stack.proofs.DemandPlaces.{below-at}
use Rattle.choice_stack.proofs.checks.first_broken.Goals as goal

pub demand_in-requires : goal.demand_in-requires
demand_in-requires c = below-at _ c.args.places.now c.loop-place.place-index c.requires c.loop-place-test.true

pub returns-then-is_broken-clause-within : goal.returns-then-is_broken-clause-within
returns-then-is_broken-clause-within c = below-at _ c.args.places.now c.loop-place.place-index c.requires c.loop-place-test.true
