use Rattle.std.proofs.Common.{length, ap, arith}
use Rattle.goal_links.specs.Mentions.{Mentioned}
use Rattle.goal_links.proofs.ChainWalks.{said-count}
use Rattle.goal_links.proofs.mentions.Mentions.at.Goals as goal

pub owner_of-entry-requires : goal.owner_of-entry-requires
owner_of-entry-requires c =
    omega (arith, c.requires, ap (λ (m : Mentioned). length m.said) c.self.view_is, said-count c.self.inside.links c.self.inside.count c.self.invariant, c.self.invariant.count)
