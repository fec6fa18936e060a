use Rattle.std.proofs.Common.{◌<◌, ◌∙◌, length, ap, arith}
use Rattle.goal_links.specs.Row.{has_node}
use Rattle.goal_links.specs.Chains.{Chained, chain_with}
use Rattle.goal_links.proofs.Chained.{cell-set, chain-fits}
use Rattle.goal_links.proofs.chains.Chains.set_cell.Goals as goal

pub invariant_of-self : goal.invariant_of-self
invariant_of-self c =
    let s = c.self.inside in
    let within : c.args.place < length s.cells.items = omega (arith, c.requires.place, ap (λ (v : Chained). length v.cells) c.self.view_is) in
    let fits = chain-fits s.ends.items s.nodes.items c.args.self.now.chains c.args.cell.entry (ap (λ (v : Chained). v.chains) c.self.view_is) c.requires.entry in
    cell-set s.ends.items s.nodes.items s.cells.items c.args.place c.args.cell c.self.invariant within fits
    (ap (λ (v : Chained). has_node (chain_with v c.args.place) c.args.place) c.self.view_is ∙ c.requires.outside)
