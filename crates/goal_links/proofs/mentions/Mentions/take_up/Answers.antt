use Rattle.std.proofs.Common.{◌<◌, ◌++◌, ◌∙◌, length, take, drop, ap, arith}
use Rattle.goal_links.specs.Mentions.{Mentioned}
use Rattle.goal_links.proofs.ChainWalks.{said-more, spare-count, spare-less, spare-outside, taken-up}
use Rattle.goal_links.proofs.mentions.Mentions.take_up.Goals as goal

pub chain_push-requires-clause-new : goal.chain_push-requires-clause-new
chain_push-requires-clause-new c =
    let s = c.self.inside.links in
    let n = c.self.inside.count in
    let lt : n < length s.cells = omega (arith, c.requires, ap (λ (m : Mentioned). length m.spare) c.self.view_is, spare-count s n c.self.invariant) in
    spare-outside s n c.self.invariant n (omega arith) lt

pub invariant_of-self : goal.invariant_of-self
invariant_of-self c =
    let s = c.self.inside.links in
    let n = c.self.inside.count in
    let lt : n < length s.cells = omega (arith, c.requires, ap (λ (m : Mentioned). length m.spare) c.self.view_is, spare-count s n c.self.invariant) in
    taken-up s c.chain_push.new.self n c.self.invariant lt c.chain_push.ensures

pub returns-clause-said : goal.returns-clause-said
returns-clause-said c =
    let s = c.self.inside.links in
    let n = c.self.inside.count in
    let lt : n < length s.cells = omega (arith, c.requires, ap (λ (m : Mentioned). length m.spare) c.self.view_is, spare-count s n c.self.invariant) in
    said-more s c.chain_push.new.self n c.self.invariant lt c.chain_push.ensures ∙ ap (λ (m : Mentioned). m.said ++ take 1 m.spare) c.self.view_is

pub returns-clause-spare : goal.returns-clause-spare
returns-clause-spare c =
    let s = c.self.inside.links in
    let n = c.self.inside.count in
    let lt : n < length s.cells = omega (arith, c.requires, ap (λ (m : Mentioned). length m.spare) c.self.view_is, spare-count s n c.self.invariant) in
    spare-less s c.chain_push.new.self n c.self.invariant lt c.chain_push.ensures ∙ ap (λ (m : Mentioned). drop 1 m.spare) c.self.view_is
