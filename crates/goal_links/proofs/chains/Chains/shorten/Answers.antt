use Rattle.goal_links.proofs.Chained.{off-prev, off-next, off-chains}
use Rattle.goal_links.proofs.chains.Chains.shorten.Goals as goal

pub unlink-requires-clause-prev : goal.unlink-requires-clause-prev
unlink-requires-clause-prev c =
    off-prev c.self.inside.ends.items c.self.inside.nodes.items c.self.inside.cells.items c.self.invariant c.args.self.now c.self.view_is c.args.cell c.requires.cell c.requires.last
    c.index.result.now c.index.ensures c.deref_mut.result.now c.deref_mut.ensures.value c.index_mut.result.now c.index_mut.ensures.value

pub unlink-requires-clause-next : goal.unlink-requires-clause-next
unlink-requires-clause-next c =
    off-next c.self.inside.ends.items c.self.inside.nodes.items c.self.inside.cells.items c.self.invariant c.args.self.now c.self.view_is c.args.cell c.requires.cell c.requires.last
    c.index.result.now c.index.ensures c.deref_mut.result.now c.deref_mut.ensures.value c.index_mut.result.now c.index_mut.ensures.value

pub invariant_of-self : goal.invariant_of-self
invariant_of-self c =
    (off-chains c.self.inside.ends.items c.self.inside.nodes.items c.self.inside.cells.items c.self.invariant c.args.self.now c.self.view_is c.args.cell c.requires.cell c.requires.last
    c.index.result.now c.index.ensures c.deref_mut.result.now c.deref_mut.ensures.value c.index_mut.result.now c.index_mut.ensures.value
    c.unlink.new.ends c.unlink.new.nodes c.self.inside.nodes.items c.self.inside.nodes.len c.unlink.ensures.next c.unlink.ensures.prev c.unlink.auto.nodes c.self.inside.nodes.ok.0).0

pub returns : goal.returns
returns c =
    (off-chains c.self.inside.ends.items c.self.inside.nodes.items c.self.inside.cells.items c.self.invariant c.args.self.now c.self.view_is c.args.cell c.requires.cell c.requires.last
    c.index.result.now c.index.ensures c.deref_mut.result.now c.deref_mut.ensures.value c.index_mut.result.now c.index_mut.ensures.value
    c.unlink.new.ends c.unlink.new.nodes c.self.inside.nodes.items c.self.inside.nodes.len c.unlink.ensures.next c.unlink.ensures.prev c.unlink.auto.nodes c.self.inside.nodes.ok.0).1
