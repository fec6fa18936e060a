use Rattle.std.proofs.Common.{◌+◌, ◌-◌, refl, subst, arith}
use Rattle.goal_links.specs.Links.{shortened}
use Rattle.goal_links.specs.Mentions.{AreSaid}
use Rattle.goal_links.proofs.ChainWalks.{pop-last, taken-off}
use Rattle.goal_links.proofs.mentions.Mentions.pop.Goals as goal

pub chain_pop-requires-clause-last : goal.chain_pop-requires-clause-last
chain_pop-requires-clause-last c =
    let s = c.self.inside.links in
    let n = c.self.inside.count - 1 in
    let h : AreSaid s (n + 1) = subst (λ k. AreSaid s k) (omega (arith, c.if-self-eq0.false)) c.self.invariant in
    pop-last s (shortened s n) n h refl

pub invariant_of-self : goal.invariant_of-self
invariant_of-self c =
    let s = c.self.inside.links in
    let n = c.self.inside.count - 1 in
    let h : AreSaid s (n + 1) = subst (λ k. AreSaid s k) (omega (arith, c.if-self-eq0.false)) c.self.invariant in
    taken-off s c.chain_pop.new.self n h c.chain_pop.ensures
