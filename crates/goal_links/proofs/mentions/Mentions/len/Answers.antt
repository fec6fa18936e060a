use Rattle.std.proofs.Common.{◌∙◌, length, ap}
use Rattle.goal_links.specs.Mentions.{Mentioned}
use Rattle.goal_links.proofs.ChainWalks.{said-count}
use Rattle.goal_links.proofs.mentions.Mentions.len.Goals as goal

pub returns : goal.returns
returns c = said-count c.self.inside.links c.self.inside.count c.self.invariant ∙ ap (λ (m : Mentioned). length m.said) c.self.view_is
