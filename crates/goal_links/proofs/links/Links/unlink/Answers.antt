use Rattle.std.proofs.Common.{ap, ◌∙◌, sym, subst}
use Rattle.std.specs.Option.{option_map}
use Rattle.std.specs.List.{slice_get}
use Rattle.std.proofs.lemmas.Option.{slice_get-map}
use Rattle.choice_problem.specs.ConflictSet.{is_rising}
use Rattle.goal_links.specs.Row.{Line}
use Rattle.goal_links.specs.Links.{Entries, AreLinks, entries_of, sides_in, unlinked}
use Rattle.goal_links.proofs.EntryLemmas.{entry-fits, linked-number, links-unlinked, view-unlinked}
use Rattle.goal_links.proofs.links.Links.unlink.Goals as goal

pub recent_without-self-inside-requires-clause-linked : goal.recent_without-self-inside-requires-clause-linked
recent_without-self-inside-requires-clause-linked c = linked-number c.self.inside.vars c.self.inside.row c.self.inside.recent c.self.inside.chains c.self.invariant c.args.self.now c.self.view_is c.args.entry c.requires.entry ∙ c.requires.linked

pub unlink-requires : goal.unlink-requires
unlink-requires c = linked-number c.self.inside.vars c.self.inside.row c.self.inside.recent c.self.inside.chains c.self.invariant c.args.self.now c.self.view_is c.args.entry c.requires.entry ∙ c.requires.linked

pub invariant_of-self : goal.invariant_of-self
invariant_of-self c =
    subst (λ (r : Line). AreLinks c.self.inside.vars r c.recent_without-self-inside.result c.self.inside.chains) (sym c.unlink.ensures.unlinked)
    (links-unlinked c.self.inside.vars c.self.inside.row c.self.inside.recent c.self.inside.chains c.self.invariant c.args.entry (entry-fits c.self.inside.vars c.self.inside.row c.self.inside.recent c.self.inside.chains c.self.invariant c.args.self.now c.self.view_is c.args.entry c.requires.entry) c.recent_without-self-inside.result
    (linked-number c.self.inside.vars c.self.inside.row c.self.inside.recent c.self.inside.chains c.self.invariant c.args.self.now c.self.view_is c.args.entry c.requires.entry ∙ c.requires.linked) c.recent_without-self-inside.ensures)

pub returns-clause-kept : goal.returns-clause-kept
returns-clause-kept c =
    ap (λ (s : Entries). slice_get s.kept c.args.entry) (sym c.self.view_is)
    ∙ slice_get-map (option_map (sides_in c.self.inside.vars)) c.self.inside.row.kept c.args.entry
    ∙ ap (option_map (option_map (sides_in c.self.inside.vars))) c.unlink.ensures.kept

pub returns-clause-rising : goal.returns-clause-rising
returns-clause-rising c = ap (λ (s : Entries). is_rising s.linked) (sym c.self.view_is) ∙ c.self.invariant.rising

pub returns-clause-unlinked : goal.returns-clause-unlinked
returns-clause-unlinked c =
    ap (λ (r : Line). entries_of c.self.inside.vars r c.self.inside.chains) c.unlink.ensures.unlinked
    ∙ view-unlinked c.self.inside.vars c.self.inside.row c.self.inside.recent c.self.inside.chains c.self.invariant c.args.entry (entry-fits c.self.inside.vars c.self.inside.row c.self.inside.recent c.self.inside.chains c.self.invariant c.args.self.now c.self.view_is c.args.entry c.requires.entry)
    (linked-number c.self.inside.vars c.self.inside.row c.self.inside.recent c.self.inside.chains c.self.invariant c.args.self.now c.self.view_is c.args.entry c.requires.entry ∙ c.requires.linked)
    ∙ ap (λ (s : Entries). unlinked s c.args.entry) c.self.view_is
