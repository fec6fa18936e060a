use Rattle.std.proofs.Common.{◌∙◌, sym, ap, subst}
use Rattle.goal_links.specs.Links.{linked}
use Rattle.goal_links.specs.Mentions.{Mentioned}
use Rattle.choice_stack.specs.Open.{MayComeBack}
use Rattle.choice_stack.proofs.OpenVariables.{linked-has, linked-kept, linked-order, may-come-back, back-within}
use Rattle.choice_stack.proofs.goals.Goals.put_back.Goals as goal

pub relink-requires : goal.relink-requires
relink-requires c =
    may-come-back c.self.inside.mentions.row c.args.entry c.self.invariant (subst (λ (m : Mentioned). MayComeBack m.row c.args.entry) (sym c.self.view_is) c.requires)

pub invariant_of-self : goal.invariant_of-self
invariant_of-self c =
    let within = back-within c.self.inside.mentions.row c.args.entry (subst (λ (m : Mentioned). MayComeBack m.row c.args.entry) (sym c.self.view_is) c.requires) in
    linked-order _ _ c.args.entry within c.relink.ensures.row c.self.invariant

pub returns-clause-linked : goal.returns-clause-linked
returns-clause-linked c = linked-has _ _ c.args.entry (back-within c.args.self.now.row c.args.entry c.requires) (c.relink.ensures.row ∙ ap (λ (m : Mentioned). linked m.row c.args.entry) c.self.view_is)

pub returns-clause-kept : goal.returns-clause-kept
returns-clause-kept c = linked-kept _ _ c.args.entry (back-within c.args.self.now.row c.args.entry c.requires) (c.relink.ensures.row ∙ ap (λ (m : Mentioned). linked m.row c.args.entry) c.self.view_is)
