-- the owner is a choice of the whole problem
use Rattle.conflict_shrink.specs.RestrictedLaws.{choice-in-whole}
use Rattle.conflict_shrink.proofs.restricted.RestrictedChoices.demands.Goals as goal

pub demands-requires : goal.demands-requires
demands-requires g c = let r = c.args.self.now in choice-in-whole (g.C.Choices.problem r.choices) r.set r.known c.args.owner c.requires
