use Rattle.std.proofs.Common.{◌<◌, ◌∙◌, length, is_some, sym, ap, subst}
use Rattle.choice_problem.specs.ConflictSet.{has}
use Rattle.goal_links.specs.Links.{var_at}
use Rattle.goal_links.specs.Mentions.{Mentioned, used, vars_at}
use Rattle.goal_links.proofs.ChainWalks.{chain-has, get-at}
use Rattle.goal_links.proofs.mentions.Mentions.names_entry.Goals as goal

pub chain_first-requires : goal.chain_first-requires
chain_first-requires c = subst (λ (m : Mentioned). c.args.entry < length m.row.vars) (sym c.self.view_is) c.requires

pub returns : goal.returns
returns c =
    let s = c.self.inside.links in
    let lt = subst (λ (m : Mentioned). c.args.entry < length m.row.vars) (sym c.self.view_is) c.requires in
    c.is_some.ensures ∙ ap is_some c.chain_first.ensures.first
    ∙ sym (chain-has (used c.self.inside.count s) c.self.invariant.said c.chain_first.ensures.one c.args.entry (var_at s.vars c.args.entry) (get-at s.vars c.args.entry lt))
    ∙ ap (λ (m : Mentioned). has (vars_at m.said) (var_at m.row.vars c.args.entry)) c.self.view_is
