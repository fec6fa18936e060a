use Rattle.std.proofs.Common.{subst}
use Rattle.goal_links.specs.Links.{Entries, HaveOneEntry}
use Rattle.goal_links.proofs.links.Links.entry_of.Goals as goal

pub returns-clause-one : goal.returns-clause-one
returns-clause-one c = subst (λ (s : Entries). HaveOneEntry s.vars) c.self.view_is c.self.invariant.once
