use Rattle.std.proofs.Common.{◌∙◌, take, sym, ap}
use Rattle.std.proofs.lemmas.Option.{slice_get_within}
use Rattle.goal_links.specs.Mentions.{Mentioned, places_on, used}
use Rattle.goal_links.proofs.ChainWalks.{chain-places, said-once, said-places, unknown-places}
use Rattle.goal_links.proofs.mentions.Mentions.places.Goals as goal

pub of-requires-clause-once : goal.of-requires-clause-once
of-requires-clause-once c =
    said-once c.self.inside.links c.self.inside.count c.self.invariant c.in-Some.entry
    (slice_get_within c.self.inside.links.vars c.in-Some.entry c.args.v c.in-Some.ensures.entry)

pub returns-in-Some : goal.returns-in-Some
returns-in-Some c =
    let s = c.self.inside.links in
    let n = c.self.inside.count in
    let lt = slice_get_within s.vars c.in-Some.entry c.args.v c.in-Some.ensures.entry in
    c.of.ensures
    ∙ sym (said-places s n c.self.invariant c.in-Some.entry lt)
    ∙ sym (chain-places (used n s) c.self.invariant.said c.entry_of.ensures.one c.in-Some.entry c.args.v c.in-Some.ensures.entry)
    ∙ ap (λ (m : Mentioned). places_on c.args.v m.said) c.self.view_is

pub returns-in-None : goal.returns-in-None
returns-in-None c =
    c.none.ensures
    ∙ sym (unknown-places c.self.inside.links.vars c.args.v c.in-None.ensures.entry (take c.self.inside.count c.self.inside.links.cells) c.self.invariant.said.within)
    ∙ ap (λ (m : Mentioned). places_on c.args.v m.said) c.self.view_is
