use Rattle.std.proofs.Common.{◌<◌, ◌∙◌, length, take, sym, ap, subst}
use Rattle.std.proofs.lemmas.Option.{slice_get_within}
use Rattle.choice_problem.specs.ConflictSet.{has}
use Rattle.goal_links.specs.Links.{var_at}
use Rattle.goal_links.specs.Mentions.{Mentioned, vars_at}
use Rattle.goal_links.proofs.ChainWalks.{at-entry, unknown-has}
use Rattle.goal_links.proofs.mentions.Mentions.names.Goals as goal

pub names_entry-requires : goal.names_entry-requires
names_entry-requires c =
    subst (λ (m : Mentioned). c.in-Some.entry < length m.row.vars) c.self.view_is
    (slice_get_within c.self.inside.links.vars c.in-Some.entry c.args.v c.in-Some.ensures.entry)

pub returns-in-Some : goal.returns-in-Some
returns-in-Some c =
    c.names_entry.ensures
    ∙ ap (has (vars_at c.args.self.now.said))
    (ap (λ (m : Mentioned). var_at m.row.vars c.in-Some.entry) (sym c.self.view_is)
    ∙ at-entry c.self.inside.links.vars c.in-Some.entry c.args.v c.in-Some.ensures.entry)

pub returns-in-None : goal.returns-in-None
returns-in-None c =
    sym (unknown-has c.self.inside.links.vars c.args.v c.in-None.ensures.entry (take c.self.inside.count c.self.inside.links.cells) c.self.invariant.said.within)
    ∙ ap (λ (m : Mentioned). has (vars_at m.said) c.args.v) c.self.view_is
