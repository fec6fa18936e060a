use Rattle.std.proofs.Common.{◌<◌, ◌∙◌, length, take, sym, ap, subst}
use Rattle.std.proofs.lemmas.Option.{slice_get_within}
use Rattle.goal_links.specs.Chains.{chain_at}
use Rattle.goal_links.specs.Mentions.{Mentioned, indices_on, used}
use Rattle.goal_links.proofs.ChainWalks.{chain-indices, unknown-indices}
use Rattle.goal_links.proofs.mentions.Mentions.indices.Goals as goal

pub cells_in-requires : goal.cells_in-requires
cells_in-requires c =
    subst (λ (m : Mentioned). c.in-Some.entry < length m.row.vars) c.self.view_is
    (slice_get_within c.self.inside.links.vars c.in-Some.entry c.args.v c.in-Some.ensures.entry)

pub returns : goal.returns
returns c =
    c.in_ok-found.ensures ∙ ap (λ (m : Mentioned). chain_at m.row.chains c.in-Some.entry) (sym c.self.view_is)
    ∙ sym (chain-indices (used c.self.inside.count c.self.inside.links) c.self.invariant.said c.entry_of.ensures.one c.in-Some.entry c.args.v c.in-Some.ensures.entry)
    ∙ ap (λ (m : Mentioned). indices_on c.args.v m.said) c.self.view_is

pub returns-in_default : goal.returns-in_default
returns-in_default c =
    c.new.ensures.items
    ∙ sym (unknown-indices c.self.inside.links.vars c.args.v c.in_default.ensures.entry 0 (take c.self.inside.count c.self.inside.links.cells) c.self.invariant.said.within)
    ∙ ap (λ (m : Mentioned). indices_on c.args.v m.said) c.self.view_is
