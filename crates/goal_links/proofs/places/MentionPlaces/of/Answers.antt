use Rattle.std.proofs.Common.{map, ap}
use Rattle.goal_links.specs.Mentions.{place_at}
use Rattle.goal_links.proofs.ChainWalks.{all-from, stays-in-chain}
use Rattle.goal_links.proofs.places.MentionPlaces.of.Goals as goal

pub invariant_of-result : goal.invariant_of-result
invariant_of-result c =
    stays-in-chain c.args.links.now c.args.entry c.chain_first-at.result c.requires.once c.chain_first-at.ensures.within c.chain_first-at.ensures.linked c.chain_first-at.ensures.owner

pub returns : goal.returns
returns c =
    ap (map (place_at c.args.links.now.cells))
    (all-from c.args.links.now c.args.entry c.chain_first-at.result c.requires.once c.chain_first-at.ensures.first c.chain_first-at.ensures.owner)
