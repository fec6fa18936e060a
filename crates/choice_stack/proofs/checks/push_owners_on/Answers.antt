use Rattle.choice_stack.proofs.DemandPlaces.{below-at}
use Rattle.choice_stack.proofs.checks.push_owners_on.Goals as goal

pub push_owner_on-requires : goal.push_owner_on-requires
push_owner_on-requires c = below-at _ c.args.places.now c.loop-place.place-index c.requires c.loop-place-test.true
