use Rattle.std.proofs.Common.{Some, ap, ◌∙◌, sym}
use Rattle.std.specs.Option.{option_map}
use Rattle.qualified_goals.specs.Variable.{same_var}
use Rattle.goal_links.specs.Beside.{first_of, behind_first}
use Rattle.goal_links.specs.Row.{behind}
use Rattle.goal_links.specs.Links.{Entries, var_at}
use Rattle.goal_links.proofs.NamedItems.{first-mapped}
use Rattle.goal_links.proofs.EntryLemmas.{entry-fits, linked-number, behind-number, found-linked}
use Rattle.goal_links.proofs.links.Links.next.Goals as goal

pub next-requires : goal.next-requires
next-requires c = linked-number c.self.inside.vars c.self.inside.row c.self.inside.recent c.self.inside.chains c.self.invariant c.args.self.now c.self.view_is c.args.entry c.requires.entry ∙ c.requires.linked

pub returns-clause-next : goal.returns-clause-next
returns-clause-next c =
    ap (λ (s : Entries). option_map (var_at s.vars) c.next.result) (sym c.self.view_is)
    ∙ ap (option_map (var_at c.self.inside.vars)) c.next.ensures.next
    ∙ sym (first-mapped (var_at c.self.inside.vars) (behind (Some c.args.entry) c.self.inside.row.linked))
    ∙ ap first_of (sym (behind-number c.self.inside.vars c.self.invariant.once c.self.inside.row.linked c.self.invariant.below c.args.entry (entry-fits c.self.inside.vars c.self.inside.row c.self.inside.recent c.self.inside.chains c.self.invariant c.args.self.now c.self.view_is c.args.entry c.requires.entry)))
    ∙ ap (λ (s : Entries). first_of (behind_first (same_var (var_at s.vars c.args.entry)) s.linked)) c.self.view_is

pub returns-clause-linked : goal.returns-clause-linked
returns-clause-linked c =
    found-linked c.self.inside.vars c.self.inside.row c.self.inside.recent c.self.inside.chains c.self.invariant c.args.self.now c.self.view_is c.next.result c.next.ensures.linked
