use Rattle.std.proofs.Common.{[], ◌∷◌, ◌++◌, refl, ap, ◌∙◌}
use Rattle.goal_links.specs.declared.ring.RingNode.{RingNode}
use Rattle.goal_links.specs.Chains.{with_chain, chains_of}
use Rattle.goal_links.proofs.Chained.{entry-pushed, chained-is}
use Rattle.goal_links.proofs.chains.Chains.add_entry.Goals as goal

pub invariant_of-self-2 : goal.invariant_of-self-2
invariant_of-self-2 c =
    let items = c.in_ok-push.ensures.items ∙ ap (λ (n : RingNode). c.self.inside.ends.items ++ n ∷ []) c.alone.ensures in
    (entry-pushed c.self.inside.ends.items c.push.new.self.items c.self.inside.nodes.items c.self.inside.cells.items items c.self.invariant).0

pub returns-clause-ok : goal.returns-clause-ok
returns-clause-ok c =
    let items = c.in_ok-push.ensures.items ∙ ap (λ (n : RingNode). c.self.inside.ends.items ++ n ∷ []) c.alone.ensures in
    let more = (entry-pushed c.self.inside.ends.items c.push.new.self.items c.self.inside.nodes.items c.self.inside.cells.items items c.self.invariant).1 in
    chained-is c.self.inside.cells.items c.self.inside.cells.items (chains_of c.push.new.self.items c.self.inside.nodes.items)
    (chains_of c.self.inside.ends.items c.self.inside.nodes.items ++ [] ∷ []) refl more
    ∙ ap with_chain c.self.view_is
