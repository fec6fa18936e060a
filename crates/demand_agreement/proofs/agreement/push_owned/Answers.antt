use Rattle.demand_agreement.proofs.NumberBounds.{below-at}
use Rattle.demand_agreement.proofs.agreement.push_owned.Goals as goal

pub owns_at-requires : goal.owns_at-requires
owns_at-requires g c = below-at _ c.args.places.now c.loop-place.place-index c.requires c.loop-place-test.true
