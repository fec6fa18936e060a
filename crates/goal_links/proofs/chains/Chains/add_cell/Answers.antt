use Rattle.std.proofs.Common.{◌≡◌, ℕ, List, [], ◌∷◌, ◌++◌, length, sym, ap, ◌∙◌, arith}
use Rattle.goal_links.specs.declared.ring.RingNode.{RingNode}
use Rattle.goal_links.specs.declared.chains.Cell.{Cell}
use Rattle.goal_links.specs.Chains.{Chained, with_cell, chain_at, chains_of}
use Rattle.goal_links.specs.Row.{has_node}
use Rattle.goal_links.proofs.Chained.{cell-pushed, chained-is, chain-fits, outside-all}
use Rattle.goal_links.proofs.chains.Chains.add_cell.Goals as goal

place-is : (cells : List Cell) (n len : ℕ) → n ≡ len → len ≡ length cells → n ≡ length cells
place-is cells n len e f = e ∙ f

pub invariant_of-self-2 : goal.invariant_of-self-2
invariant_of-self-2 c =
    let room = c.in_ok-reserve.ensures.ok in
    let nodes = c.in_ok-push.ensures.items ∙ ap (λ (n : RingNode). c.self.inside.nodes.items ++ n ∷ []) c.alone.ensures in
    let items : c.push-2.new.self.items ≡ c.reserve.new.self.items ++ c.args.cell ∷ [] = grind (arith, c.push-2.ensures.items, c.push-2.ensures.succeeds, room) in
    let cells = items ∙ ap (λ (l : List Cell). l ++ c.args.cell ∷ []) c.reserve.ensures.items in
    let in' = chain-fits c.self.inside.ends.items c.self.inside.nodes.items c.args.self.now.chains c.args.cell.entry (ap (λ (v : Chained). v.chains) c.self.view_is) c.requires in
    (cell-pushed c.self.inside.ends.items c.self.inside.nodes.items c.push.new.self.items c.self.inside.cells.items c.push-2.new.self.items c.args.cell nodes cells in' c.self.invariant).0

pub returns-clause-ok : goal.returns-clause-ok
returns-clause-ok c =
    let room = c.in_ok-reserve.ensures.ok in
    let nodes = c.in_ok-push.ensures.items ∙ ap (λ (n : RingNode). c.self.inside.nodes.items ++ n ∷ []) c.alone.ensures in
    let items : c.push-2.new.self.items ≡ c.reserve.new.self.items ++ c.args.cell ∷ [] = grind (arith, c.push-2.ensures.items, c.push-2.ensures.succeeds, room) in
    let cells = items ∙ ap (λ (l : List Cell). l ++ c.args.cell ∷ []) c.reserve.ensures.items in
    let in' = chain-fits c.self.inside.ends.items c.self.inside.nodes.items c.args.self.now.chains c.args.cell.entry (ap (λ (v : Chained). v.chains) c.self.view_is) c.requires in
    let same = (cell-pushed c.self.inside.ends.items c.self.inside.nodes.items c.push.new.self.items c.self.inside.cells.items c.push-2.new.self.items c.args.cell nodes cells in' c.self.invariant).1 in
    chained-is c.push-2.new.self.items (c.self.inside.cells.items ++ c.args.cell ∷ []) (chains_of c.self.inside.ends.items c.push.new.self.items)
    (chains_of c.self.inside.ends.items c.self.inside.nodes.items) cells same
    ∙ ap (λ (v : Chained). with_cell v c.args.cell) c.self.view_is

pub returns-clause-new : goal.returns-clause-new
returns-clause-new c =
    let in' = chain-fits c.self.inside.ends.items c.self.inside.nodes.items c.args.self.now.chains c.args.cell.entry (ap (λ (v : Chained). v.chains) c.self.view_is) c.requires in
    ap (λ (v : Chained). has_node (chain_at v.chains c.args.cell.entry) c.len-place.result) (sym c.self.view_is)
    ∙ ap (has_node (chain_at (chains_of c.self.inside.ends.items c.self.inside.nodes.items) c.args.cell.entry)) (place-is c.self.inside.cells.items c.len-place.result c.self.inside.cells.len c.len-place.ensures c.self.inside.cells.ok.0)
    ∙ outside-all c.self.inside.ends.items c.self.inside.nodes.items c.self.inside.cells.items c.self.invariant c.args.cell.entry in'
