use Rattle.std.proofs.Common.{ap}
use Rattle.goal_links.specs.Mentions.{Mentioned}
use Rattle.choice_stack.proofs.OpenVariables.{row-kept, row-order}
use Rattle.choice_stack.proofs.goals.Goals.take_up.Goals as goal

pub invariant_of-self : goal.invariant_of-self
invariant_of-self c = row-order c.self.inside.mentions.row c.take_up.new.self.row c.take_up.ensures.row c.self.invariant

pub returns-clause-kept : goal.returns-clause-kept
returns-clause-kept c = row-kept c.self.inside.mentions.row c.take_up.new.self.row c.args.self.now.row (ap (λ (m : Mentioned). m.row) c.self.view_is) c.take_up.ensures.row
