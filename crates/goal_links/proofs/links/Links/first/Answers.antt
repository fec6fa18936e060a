use Rattle.goal_links.proofs.EntryLemmas.{found-linked}
use Rattle.goal_links.proofs.links.Links.first.Goals as goal

pub returns-clause-linked : goal.returns-clause-linked
returns-clause-linked c =
    found-linked c.self.inside.vars c.self.inside.row c.self.inside.recent c.self.inside.chains c.self.invariant c.args.self.now c.self.view_is c.next.result c.next.ensures.linked
