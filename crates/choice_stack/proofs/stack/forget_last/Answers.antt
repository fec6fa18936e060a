use Rattle.std.proofs.Common.{◌≡◌, ◌<◌, ◌-◌, ◌++◌, ◌∷◌, [], ◌∙◌, ◌&&◌, List, Some, true, false, is_some, length, refl, sym, ap, subst, arith, length-append}
use Rattle.std.specs.List.{slice_get}
use Rattle.std.proofs.lemmas.Option.{slice_get_within}
use Rattle.qualified_goals.specs.declared.variable.Var.{Var}
use Rattle.choice_problem.specs.ConflictSet.{has}
use Rattle.choice_problem.specs.Trail.{value_in}
use Rattle.goal_links.specs.Links.{var_at}
use Rattle.goal_links.specs.Mentions.{vars_at}
use Rattle.goal_links.specs.declared.mentions.Mention.{Mention}
use Rattle.goal_links.proofs.LastItems.{pop-some}
use Rattle.goal_links.proofs.NamedItems.{get-last, get-left}
use Rattle.goal_links.proofs.ChainWalks.{at-entry}
use Rattle.choice_stack.specs.Open.{is_other}
use Rattle.choice_stack.specs.Stack.{AreOpen}
use Rattle.choice_stack.proofs.Asked.{last-open, less-again, less-open, less-valued}
use Rattle.choice_stack.proofs.stack.forget_last.Goals as goal
use Rattle.choice_stack.proofs.stack.forget_last.Goals.{After-pop}

-- the last mention, and its entry
module _ (c : After-pop) where
  abbrev parted : (m : Mention) × (c.args.goals.now.said ≡ c.pop.new.self.said ++ m ∷ [])
  parted = pop-some c.args.goals.now.said c.pop.new.self.said c.pop.result c.pop.ensures.last (λ none. c.if-len-eq0.false (c.len-len.ensures ∙ ap length none))

  abbrev last : Mention
  last = parted.0

  at : slice_get c.pop.new.self.row.vars c.entry_at-entry.result ≡ Some last.var
  at =
      let less = c.pop.new.self.said in
      let on : c.len-len.result - 1 ≡ length less = omega (arith, c.len-len.ensures, ap length parted.1, length-append less (last ∷ [])) in
      c.pop.ensures.vars c.entry_at-entry.result last.var
      (c.entry_at-entry.ensures last
      (ap (slice_get (c.args.goals.now.said ++ c.args.goals.now.spare)) on
      ∙ get-left c.args.goals.now.said c.args.goals.now.spare (length less) last (ap (λ (l : List Mention). slice_get l (length less)) parted.1 ∙ get-last less last)))

  within : c.entry_at-entry.result < length c.pop.new.self.row.vars
  within = slice_get_within c.pop.new.self.row.vars c.entry_at-entry.result last.var at

  its : var_at c.pop.new.self.row.vars c.entry_at-entry.result ≡ last.var
  its = at-entry c.pop.new.self.row.vars c.entry_at-entry.result last.var at

  was : AreOpen (c.pop.new.self.said ++ last ∷ []) c.args.trail.now c.args.goals.now.row.linked
  was = subst (λ (ms : List Mention). AreOpen ms c.args.trail.now c.args.goals.now.row.linked) parted.1 c.requires

pub names_entry-requires : goal.names_entry-requires
names_entry-requires c = within (goal.at.names_entry-requires c).After-pop

pub returns-then-names_entry-clause-opened : goal.returns-then-names_entry-clause-opened
returns-then-names_entry-clause-opened c =
    let p = (goal.at.returns-then-names_entry-clause-opened c).After-pop in
    let less = c.pop.new.self.said in
    let again : has (vars_at less) (last p).var ≡ true = ap (has (vars_at less)) (sym (its p)) ∙ sym c.names_entry.ensures ∙ c.if-names_entry.true in
    subst (λ (l : List Var). AreOpen less c.args.trail.now l) (sym c.pop.ensures.linked) (less-again less (last p) c.args.trail.now c.args.goals.now.row.linked (was p) again)

pub var_of-requires : goal.var_of-requires
var_of-requires c = within (goal.at.var_of-requires c).After-pop

pub returns-then-has-clause-opened : goal.returns-then-has-clause-opened
returns-then-has-clause-opened c =
    let p = (goal.at.returns-then-has-clause-opened c).After-pop in
    let valued = ap (λ (w : Var). is_some (value_in c.args.trail.now w)) (sym (c.var_of.ensures ∙ its p)) ∙ sym c.has.ensures ∙ c.if-has.true in
    subst (λ (l : List Var). AreOpen c.pop.new.self.said c.args.trail.now l) (sym c.pop.ensures.linked)
    (less-valued c.pop.new.self.said (last p) c.args.trail.now c.args.goals.now.row.linked (was p) valued)

pub take_out-requires-clause-entry : goal.take_out-requires-clause-entry
take_out-requires-clause-entry c = within (goal.at.take_out-requires-clause-entry c).After-pop

pub take_out-requires-clause-open : goal.take_out-requires-clause-open
take_out-requires-clause-open c =
    let p = (goal.at.take_out-requires-clause-open c).After-pop in
    let free = ap (λ (w : Var). is_some (value_in c.args.trail.now w)) (sym (c.var_of.ensures ∙ its p)) ∙ sym c.has.ensures ∙ c.if-has.false in
    ap (has c.pop.new.self.row.linked) (its p) ∙ ap (λ (l : List Var). has l (last p).var) c.pop.ensures.linked
    ∙ last-open c.pop.new.self.said (last p) c.args.trail.now c.args.goals.now.row.linked (was p) free

pub returns-clause-opened : goal.returns-clause-opened
returns-clause-opened c =
    let p = (goal.at.returns-clause-opened c).After-pop in
    let less = c.pop.new.self.said in
    let linked = c.pop.new.self.row.linked in
    let once : has (vars_at less) (last p).var ≡ false = ap (has (vars_at less)) (sym (its p)) ∙ sym c.names_entry.ensures ∙ c.if-names_entry.false in
    subst (λ (ms : List Mention). AreOpen ms c.args.trail.now c.take_out.new.self.row.linked) (sym c.take_out.ensures.said)
    (less-open less (last p) c.args.trail.now c.args.goals.now.row.linked c.take_out.new.self.row.linked (was p) once
    (λ v. c.take_out.ensures.linked v ∙ ap (λ (w : Var). is_other w v && has linked v) (its p) ∙ ap (λ (l : List Var). is_other (last p).var v && has l v) c.pop.ensures.linked))

pub returns-clause-kept : goal.returns-clause-kept
returns-clause-kept c n v sides chosen k = c.take_out.ensures.kept n v sides refl (c.pop.ensures.kept n v sides refl k)
