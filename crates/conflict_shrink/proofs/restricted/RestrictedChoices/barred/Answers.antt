-- a choice is one of the whole problem
use Rattle.conflict_shrink.specs.RestrictedLaws.{choice-in-whole}
use Rattle.conflict_shrink.proofs.restricted.RestrictedChoices.barred.Goals as goal

pub barred-requires : goal.barred-requires
barred-requires g c = let r = c.args.self.now in choice-in-whole (g.C.Choices.problem r.choices) r.set r.known c.args.c c.requires
