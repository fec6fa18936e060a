-- a variable of the set is known to the whole problem
use Rattle.conflict_shrink.specs.RestrictedLaws.{known-in-whole}
use Rattle.conflict_shrink.proofs.restricted.RestrictedChoices.domain.Goals as goal

pub domain-requires : goal.domain-requires
domain-requires g c = let r = c.args.self.now in known-in-whole (g.C.Choices.problem r.choices) r.set r.known c.args.v c.requires
