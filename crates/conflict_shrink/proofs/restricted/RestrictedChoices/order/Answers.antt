-- a trail of choices is one of the whole problem
use Rattle.conflict_shrink.specs.RestrictedLaws.{known-in-whole, choices-in-whole}
use Rattle.conflict_shrink.proofs.restricted.RestrictedChoices.order.Goals as goal

pub order-requires-clause-variable : goal.order-requires-clause-variable
order-requires-clause-variable g c = let r = c.args.self.now in known-in-whole (g.C.Choices.problem r.choices) r.set r.known c.args.v c.requires.variable

pub order-requires-clause-choices : goal.order-requires-clause-choices
order-requires-clause-choices g c = let r = c.args.self.now in choices-in-whole (g.C.Choices.problem r.choices) r.set r.known c.args.trail.now c.requires.choices
