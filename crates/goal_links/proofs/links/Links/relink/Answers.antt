use Rattle.std.proofs.Common.{refl, ap, ◌∙◌, sym, subst}
use Rattle.goal_links.specs.Beside.{last_of, first_of}
use Rattle.goal_links.specs.Links.{Entries, MayReturn, linked}
use Rattle.goal_links.proofs.EntryLemmas.{put-back, gap-of, returned}
use Rattle.goal_links.proofs.links.Links.relink.Goals as goal

pub relink-requires : goal.relink-requires
relink-requires c =
    let gap = gap-of c.self.inside.vars c.self.inside.row c.self.inside.recent c.self.inside.chains c.self.invariant c.args.entry (subst (λ (s : Entries). MayReturn s c.args.entry) (sym c.self.view_is) c.requires) in
    ((last_of gap.0, first_of gap.1), gap.3, (gap.0, gap.1, gap.2, refl, refl))

pub invariant_of-self : goal.invariant_of-self
invariant_of-self c = (returned c.self.inside.vars c.self.inside.row c.self.inside.recent c.self.inside.chains c.self.invariant c.args.self.now c.self.view_is c.args.entry c.relink.new.self c.relink.ensures.kept c.requires c.relink.ensures.linked).0

pub returns-clause-linked : goal.returns-clause-linked
returns-clause-linked c = (returned c.self.inside.vars c.self.inside.row c.self.inside.recent c.self.inside.chains c.self.invariant c.args.self.now c.self.view_is c.args.entry c.relink.new.self c.relink.ensures.kept c.requires c.relink.ensures.linked).1

pub returns-clause-back : goal.returns-clause-back
returns-clause-back c before e was = returns-clause-linked c ∙ ap (λ (s : Entries). linked s c.args.entry) e ∙ put-back before c.args.entry was
