use Rattle.std.proofs.Common.{◌<◌, ◌∙◌, sym, ap, subst, length}
use Rattle.goal_links.specs.Links.{linked}
use Rattle.goal_links.specs.Mentions.{Mentioned}
use Rattle.choice_stack.proofs.OpenVariables.{linked-has, linked-kept, linked-order}
use Rattle.choice_stack.proofs.goals.Goals.add.Goals as goal

pub invariant_of-self : goal.invariant_of-self
invariant_of-self c = linked-order _ _ c.args.entry (subst (λ (m : Mentioned). c.args.entry < length m.row.vars) (sym c.self.view_is) c.requires.entry) c.link.ensures.row c.self.invariant

pub returns-clause-linked : goal.returns-clause-linked
returns-clause-linked c = linked-has _ _ c.args.entry c.requires.entry (c.link.ensures.row ∙ ap (λ (m : Mentioned). linked m.row c.args.entry) c.self.view_is)

pub returns-clause-kept : goal.returns-clause-kept
returns-clause-kept c = linked-kept _ _ c.args.entry c.requires.entry (c.link.ensures.row ∙ ap (λ (m : Mentioned). linked m.row c.args.entry) c.self.view_is)
