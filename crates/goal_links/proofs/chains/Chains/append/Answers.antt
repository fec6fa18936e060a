use Rattle.std.proofs.Common.{◌≡◌, ◌<◌, ◌++◌, ◌∷◌, [], List, length, take, drop, None, refl, ap, ◌∙◌, arith}
use Rattle.std.proofs.Math.ListN.{set}
use Rattle.std.proofs.lemmas.List.{get_or_default}
use Rattle.goal_links.specs.declared.ring.RingNode.{RingNode}
use Rattle.goal_links.specs.declared.chains.Cell.{Cell}
use Rattle.goal_links.specs.Ring.{no_node}
use Rattle.goal_links.specs.Row.{has_node}
use Rattle.goal_links.specs.Chains.{AreChains, Chained, cell_at, ends_at, chain_at, chain_with, chains_of, no_cell, appended}
use Rattle.goal_links.proofs.Chained.{entry-fits, appended-prev, appended-chains, chained-is}
use Rattle.goal_links.proofs.chains.Chains.append.Goals as goal
use Rattle.goal_links.proofs.chains.Chains.append.Goals.{After-deref_mut, After-relink}

-- the cell is listed, and its entry has a chain
fits : (c : After-deref_mut) → c.args.cell < length c.self.inside.cells.items
fits c = omega (arith, c.requires.cell, ap (λ (v : Chained). length v.cells) c.self.view_is)

entry : (c : After-deref_mut) → c.index.result.now.entry ≡ (cell_at c.self.inside.cells.items c.args.cell).entry
entry c = ap (λ (x : Cell). x.entry) (c.index.ensures ∙ get_or_default c.self.inside.cells.items c.args.cell c.index.result.now no_cell (fits c))

within : (c : After-deref_mut) → c.index.result.now.entry < length c.self.inside.ends.items
within c = entry-fits c.self.inside.ends.items c.self.inside.nodes.items c.self.inside.cells.items c.self.invariant c.args.cell c.index.result.now.entry (fits c) (entry c)

-- the ends of the chain before the cell joins it
prev : (c : After-deref_mut) → c.index-2.result.now.prev ≡ (ends_at c.self.inside.ends.items c.index.result.now.entry).prev
prev c = ap (λ (n : RingNode). n.prev) (c.index-2.ensures ∙ get_or_default c.self.inside.ends.items c.index.result.now.entry c.index-2.result.now no_node (within c))

end : (c : After-deref_mut) → c.index_mut-2.result.now ≡ ends_at c.self.inside.ends.items c.index.result.now.entry
end c = c.index_mut-2.ensures.value ∙ get_or_default c.self.inside.ends.items c.index.result.now.entry c.index_mut-2.result.now no_node (within c)

pub relink-requires-clause-prev : goal.relink-requires-clause-prev
relink-requires-clause-prev c =
    let d = (goal.at.relink-requires-clause-prev c).After-deref_mut in
    appended-prev c.self.inside.ends.items c.self.inside.nodes.items c.self.inside.cells.items c.self.invariant c.args.cell c.index.result.now.entry (fits d) (entry d)
    c.index-2.result.now.prev (prev d) c.deref_mut.result.now c.deref_mut.ensures.value c.index_mut-2.result.now (end d)

-- the ends and the nodes with the cell at the end of its chain
abbrev ends : After-relink → List RingNode
ends c = set c.self.inside.ends.items c.index.result.now.entry c.relink.new.ends

abbrev nodes : After-relink → List RingNode
nodes c =
    take c.self.inside.nodes.len (c.relink.new.nodes ++ drop (length c.relink.new.nodes) (set c.self.inside.nodes.items c.args.cell (record { prev = c.index-2.result.now.prev; next = None })))

joined : (c : After-relink) → (let old = chains_of c.self.inside.ends.items c.self.inside.nodes.items in AreChains (ends c) (nodes c) c.self.inside.cells.items
    × (chains_of (ends c) (nodes c) ≡ set old c.index.result.now.entry (chain_at old c.index.result.now.entry ++ c.args.cell ∷ [])))
joined c =
    let d = c.before in
    let outside = ap (λ n. has_node (chain_at (chains_of c.self.inside.ends.items c.self.inside.nodes.items) n) c.args.cell) (entry d)
    ∙ ap (λ (v : Chained). has_node (chain_with v c.args.cell) c.args.cell) c.self.view_is ∙ c.requires.new in
    appended-chains c.self.inside.ends.items c.self.inside.nodes.items c.self.inside.cells.items c.self.invariant c.args.cell c.index.result.now.entry (fits d) (entry d)
    c.index-2.result.now.prev (prev d) c.deref_mut.result.now c.deref_mut.ensures.value c.index_mut-2.result.now (end d)
    c.relink.new.ends c.relink.new.nodes (set c.self.inside.nodes.items c.args.cell (record { prev = c.index-2.result.now.prev; next = None }))
    c.self.inside.nodes.len outside c.relink.ensures.next c.relink.ensures.prev c.relink.auto.nodes c.self.inside.nodes.ok.0

pub invariant_of-self : goal.invariant_of-self
invariant_of-self c = (joined (goal.at.invariant_of-self c).After-relink).0

pub returns : goal.returns
returns c =
    let r = (goal.at.returns c).After-relink in
    let cells = c.self.inside.cells.items in
    let old = chains_of c.self.inside.ends.items c.self.inside.nodes.items in
    chained-is cells cells (chains_of (ends r) (nodes r)) (set old (cell_at cells c.args.cell).entry (chain_at old (cell_at cells c.args.cell).entry ++ c.args.cell ∷ [])) refl
    ((joined r).1 ∙ ap (λ n. set old n (chain_at old n ++ c.args.cell ∷ [])) (entry r.before))
    ∙ ap (λ (v : Chained). appended v c.args.cell) c.self.view_is
