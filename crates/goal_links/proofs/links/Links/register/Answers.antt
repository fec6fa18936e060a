use Rattle.std.proofs.Common.{◌≡◌, ◌∷◌, [], ◌++◌, List, ap, ◌∙◌, sym, subst}
use Rattle.std.specs.List.{slice_get}
use Rattle.std.proofs.lemmas.Bool.{false≢true}
use Rattle.qualified_goals.specs.declared.variable.Var.{Var}
use Rattle.choice_problem.proofs.VariableSets.{contains-has}
use Rattle.choice_problem.specs.ConflictSet.{has}
use Rattle.goal_links.specs.Row.{Line, with_node}
use Rattle.goal_links.specs.Chains.{Chained, with_chain}
use Rattle.goal_links.specs.Links.{Entries, AreLinks, entries_of, registered}
use Rattle.goal_links.proofs.NamedItems.{get-contains, get-last}
use Rattle.goal_links.proofs.EntryLemmas.{links-registered, view-registered, registered-again, registered-linked, unknown-unlinked}
use Rattle.goal_links.proofs.links.Links.register.Goals as goal
use Rattle.choice_problem.proofs.InfallibleCalls.{ok-where}

pub returns-in-Some-clause-ok : goal.returns-in-Some-clause-ok
returns-in-Some-clause-ok c =
    registered-again c.args.self.now c.args.v c.in-Some.entry (ap (λ (s : Entries). slice_get s.vars c.in-Some.entry) (sym c.self.view_is) ∙ c.in-Some.ensures)

-- the parts with one more entry
parts : (vars vars2 : List Var) (row row2 : Line) (chains chains2 : Chained) (P : List Var → Line → Chained → Type 0)
    → vars2 ≡ vars → row2 ≡ row → chains2 ≡ chains → P vars row chains → P vars2 row2 chains2
parts vars vars2 row row2 chains chains2 P e f g h = subst (λ v. P v row2 chains2) (sym e) (subst (λ r. P vars r chains2) (sym f) (subst (λ c. P vars row c) (sym g) h))

pub invariant_of-self-else-is_err-2 : goal.invariant_of-self-else-is_err-2
invariant_of-self-else-is_err-2 c =
    let row : c.add-2.new.self ≡ with_node c.self.inside.row = ok-where c.add-2.result c.add-2.ensures.ok (sym c.if-is_err.ensures.value) in
    let chains : c.add_entry.new.self ≡ with_chain c.self.inside.chains = ok-where c.add_entry.result c.add_entry.ensures.ok (sym c.if-is_err-2.ensures.value) in
    parts (c.self.inside.vars ++ c.args.v ∷ []) c.add.new.self (with_node c.self.inside.row) c.add-2.new.self (with_chain c.self.inside.chains) c.add_entry.new.self
    (λ v r s. AreLinks v r c.self.inside.recent s) c.in_ok-add.ensures.ok row chains
    (links-registered c.self.inside.vars c.self.inside.row c.self.inside.recent c.self.inside.chains c.self.invariant c.args.v c.in_default.ensures)

pub returns-clause-ok : goal.returns-clause-ok
returns-clause-ok c =
    let row : c.add-2.new.self ≡ with_node c.self.inside.row = ok-where c.add-2.result c.add-2.ensures.ok (sym c.if-is_err.ensures.value) in
    let chains : c.add_entry.new.self ≡ with_chain c.self.inside.chains = ok-where c.add_entry.result c.add_entry.ensures.ok (sym c.if-is_err-2.ensures.value) in
    parts (c.self.inside.vars ++ c.args.v ∷ []) c.add.new.self (with_node c.self.inside.row) c.add-2.new.self (with_chain c.self.inside.chains) c.add_entry.new.self
    (λ v r s. entries_of v r s ≡ registered c.args.self.now c.args.v) c.in_ok-add.ensures.ok row chains
    (view-registered c.self.inside.vars c.self.inside.row c.self.inside.recent c.self.inside.chains c.self.invariant c.args.v c.in_default.ensures
    ∙ ap (λ (s : Entries). registered s c.args.v) c.self.view_is)

pub returns-clause-entry : goal.returns-clause-entry
returns-clause-entry c =
    ap (λ (l : List Var). slice_get l c.len-entry.result) c.in_ok-add.ensures.ok ∙ ap (slice_get (c.self.inside.vars ++ c.args.v ∷ [])) c.len-entry.ensures
    ∙ get-last c.self.inside.vars c.args.v

pub returns-in-Some-clause-new : goal.returns-in-Some-clause-new
returns-in-Some-clause-new c fresh =
    let at = ap (λ (s : Entries). slice_get s.vars c.in-Some.entry) (sym c.self.view_is) ∙ c.in-Some.ensures in
    absurd (false≢true (sym fresh ∙ contains-has c.args.self.now.vars c.args.v (get-contains c.args.self.now.vars c.in-Some.entry c.args.v at)))

pub returns-clause-new : goal.returns-clause-new
returns-clause-new c fresh =
    let now = returns-clause-ok c in
    ap (λ (s : Entries). has s.linked c.args.v) (now ∙ sym (ap (λ (s : Entries). registered s c.args.v) c.self.view_is))
    ∙ registered-linked (entries_of c.self.inside.vars c.self.inside.row c.self.inside.chains) c.args.v
    ∙ unknown-unlinked c.self.inside.vars c.self.inside.row c.self.inside.recent c.self.inside.chains c.self.invariant c.args.v c.in_default.ensures
