use Rattle.choice_stack.proofs.DemandPlaces.{below-at}
use Rattle.choice_stack.proofs.checks.targets_at.Goals as goal

pub demand_in-demand-requires : goal.demand_in-demand-requires
demand_in-demand-requires c = below-at _ c.args.places.now c.loop-place.place-index c.requires c.loop-place-test.true
