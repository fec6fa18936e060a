use Rattle.std.proofs.Common.{◌<◌, ◌+◌, ◌++◌, ◌∙◌, length, sym, ap, arith}
use Rattle.std.specs.List.{slice_get}
use Rattle.goal_links.specs.Mentions.{Mentioned}
use Rattle.goal_links.proofs.ChainWalks.{mention-entry, said-count, spare-count}
use Rattle.goal_links.proofs.mentions.Mentions.entry_at.Goals as goal

pub owner_of-requires : goal.owner_of-requires
owner_of-requires c =
    omega (
      arith,
      c.requires,
      ap (λ (m : Mentioned). length m.said + length m.spare) c.self.view_is,
      said-count c.self.inside.links c.self.inside.count c.self.invariant,
      spare-count c.self.inside.links c.self.inside.count c.self.invariant,
    )

pub returns : goal.returns
returns c m e =
    let s = c.self.inside.links in
    let n = c.self.inside.count in
    let lt : c.args.index < length s.cells =
    omega (arith, c.requires, ap (λ (m : Mentioned). length m.said + length m.spare) c.self.view_is, said-count s n c.self.invariant, spare-count s n c.self.invariant) in
    ap (λ (x : Mentioned). slice_get x.row.vars c.owner_of.result) (sym c.self.view_is) ∙ ap (slice_get s.vars) c.owner_of.ensures
    ∙ mention-entry s n c.self.invariant c.args.index m lt (ap (λ (x : Mentioned). slice_get (x.said ++ x.spare) c.args.index) c.self.view_is ∙ e)
