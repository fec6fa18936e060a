use Rattle.std.proofs.Common.{◌∙◌}
use Rattle.goal_links.proofs.EntryLemmas.{linked-number, placed}
use Rattle.goal_links.proofs.links.Links.link.Goals as goal

pub link-requires-clause-new : goal.link-requires-clause-new
link-requires-clause-new c = linked-number c.self.inside.vars c.self.inside.row c.self.inside.recent c.self.inside.chains c.self.invariant c.args.self.now c.self.view_is c.args.entry c.requires.entry ∙ c.requires.new

pub invariant_of-self : goal.invariant_of-self
invariant_of-self c =
    (placed c.self.inside.vars c.self.inside.row c.self.inside.recent c.self.inside.chains c.self.invariant c.args.self.now c.self.view_is c.args.entry c.link.new.self c.link.ensures.kept c.requires.entry c.requires.new
    c.place_before-place.result c.place_before-place.ensures.linked c.at-v.result c.at-v.ensures c.place_before-place.ensures.before c.place_before-place.ensures.behind c.link.ensures.linked).0

pub returns : goal.returns
returns c =
    (placed c.self.inside.vars c.self.inside.row c.self.inside.recent c.self.inside.chains c.self.invariant c.args.self.now c.self.view_is c.args.entry c.link.new.self c.link.ensures.kept c.requires.entry c.requires.new
    c.place_before-place.result c.place_before-place.ensures.linked c.at-v.result c.at-v.ensures c.place_before-place.ensures.before c.place_before-place.ensures.behind c.link.ensures.linked).1
