use Rattle.std.proofs.Common.{◌≡◌, ℕ, ◌+◌, ◌<◌, ◌++◌, ◌∷◌, [], ◌∙◌, ◌||◌, List, Some, true, false, is_some, length, take, refl, sym, ap, subst, arith}
use Rattle.std.specs.List.{slice_get}
use Rattle.std.proofs.lemmas.Option.{slice_get_within}
use Rattle.qualified_goals.specs.declared.variable.Var.{Var}
use Rattle.qualified_goals.specs.Variable.{same_var}
use Rattle.choice_problem.specs.ConflictSet.{has}
use Rattle.choice_problem.specs.Trail.{value_in}
use Rattle.goal_links.specs.Mentions.{vars_at}
use Rattle.goal_links.specs.declared.mentions.Mention.{Mention}
use Rattle.goal_links.proofs.ChainWalks.{at-entry}
use Rattle.choice_stack.specs.Open.{is_other}
use Rattle.choice_stack.specs.Stack.{AreOpen}
use Rattle.choice_stack.proofs.Asked.{more-again, more-open, more-valued, not-open}
use Rattle.choice_stack.proofs.StackLemmas.{chosen-other}
use Rattle.choice_stack.proofs.OpenVariables.{get-right}
use Rattle.choice_stack.proofs.growth.activate_next.Goals as goal

-- the first ready mention, and its entry
module _ (said spare : List Mention) (vars : List Var) (entry index : ℕ) (some : 0 < length spare) (last : index ≡ length said)
    (tells : (m : Mention) → slice_get (said ++ spare) index ≡ Some m → slice_get vars entry ≡ Some m.var) where
  parted : (m : Mention) × (rest : List Mention) × (spare ≡ m ∷ rest)
  parted = elim spare as (λ (l : List Mention). 0 < length l → (m : Mention) × (rest : List Mention) × (l ≡ m ∷ rest)) [
    | [] ↦ λ h. absurd (omega (arith, h))
    | m ∷ rest ↦ λ h. (m, rest, refl)
  ] some

  entry-of : slice_get vars entry ≡ Some parted.0.var
  entry-of =
      let on : index ≡ length said + 0 = omega (arith, last) in
      tells parted.0 (ap (λ (l : List Mention). slice_get (said ++ l) index) parted.2 ∙ ap (slice_get (said ++ parted.0 ∷ parted.1)) on ∙ get-right said (parted.0 ∷ parted.1) 0)

  one-more : (after : List Mention) → after ≡ said ++ take 1 spare → after ≡ said ++ parted.0 ∷ []
  one-more after e = e ∙ ap (λ (l : List Mention). said ++ take 1 l) parted.2

pub names_entry-is_named-requires : goal.names_entry-is_named-requires
names_entry-is_named-requires c =
    let g = c.args.goals.now in
    let m = parted g.said g.spare g.row.vars c.entry_at-entry.result c.len.result c.requires.ready c.len.ensures c.entry_at-entry.ensures in
    slice_get_within g.row.vars c.entry_at-entry.result m.0.var
    (entry-of g.said g.spare g.row.vars c.entry_at-entry.result c.len.result c.requires.ready c.len.ensures c.entry_at-entry.ensures)

pub returns-then-is_named-clause-opened : goal.returns-then-is_named-clause-opened
returns-then-is_named-clause-opened c =
    let g = c.args.goals.now in
    let m = parted g.said g.spare g.row.vars c.entry_at-entry.result c.len.result c.requires.ready c.len.ensures c.entry_at-entry.ensures in
    let at = entry-of g.said g.spare g.row.vars c.entry_at-entry.result c.len.result c.requires.ready c.len.ensures c.entry_at-entry.ensures in
    let after = one-more g.said g.spare g.row.vars c.entry_at-entry.result c.len.result c.requires.ready c.len.ensures c.entry_at-entry.ensures c.take_up.new.self.said c.take_up.ensures.said in
    let again : has (vars_at g.said) m.0.var ≡ true = ap (has (vars_at g.said)) (sym (at-entry g.row.vars c.entry_at-entry.result m.0.var at)) ∙ sym c.names_entry-is_named.ensures ∙ c.if-is_named.true in
    subst (λ (l : List Var). AreOpen c.take_up.new.self.said c.args.trail.now l) (sym c.take_up.ensures.linked)
    (more-again g.said c.take_up.new.self.said m.0 c.args.trail.now g.row.linked c.requires.opened after again)

pub var_of-requires : goal.var_of-requires
var_of-requires c =
    let g = c.args.goals.now in
    let m = parted g.said g.spare g.row.vars c.entry_at-entry.result c.len.result c.requires.ready c.len.ensures c.entry_at-entry.ensures in
    let at = entry-of g.said g.spare g.row.vars c.entry_at-entry.result c.len.result c.requires.ready c.len.ensures c.entry_at-entry.ensures in
    slice_get_within c.take_up.new.self.row.vars c.entry_at-entry.result m.0.var (c.take_up.ensures.vars c.entry_at-entry.result m.0.var at)

pub returns-then-has-clause-opened : goal.returns-then-has-clause-opened
returns-then-has-clause-opened c =
    let g = c.args.goals.now in
    let m = parted g.said g.spare g.row.vars c.entry_at-entry.result c.len.result c.requires.ready c.len.ensures c.entry_at-entry.ensures in
    let at = entry-of g.said g.spare g.row.vars c.entry_at-entry.result c.len.result c.requires.ready c.len.ensures c.entry_at-entry.ensures in
    let then = at-entry c.take_up.new.self.row.vars c.entry_at-entry.result m.0.var (c.take_up.ensures.vars c.entry_at-entry.result m.0.var at) in
    let after = one-more g.said g.spare g.row.vars c.entry_at-entry.result c.len.result c.requires.ready c.len.ensures c.entry_at-entry.ensures c.take_up.new.self.said c.take_up.ensures.said in
    subst (λ (l : List Var). AreOpen c.take_up.new.self.said c.args.trail.now l) (sym c.take_up.ensures.linked)
    (more-valued g.said c.take_up.new.self.said m.0 c.args.trail.now g.row.linked c.requires.opened after
    (ap (λ (w : Var). is_some (value_in c.args.trail.now w)) (sym (c.var_of.ensures ∙ then)) ∙ sym c.has.ensures ∙ c.if-has.true))

pub add-requires-clause-entry : goal.add-requires-clause-entry
add-requires-clause-entry c =
    let g = c.args.goals.now in
    let m = parted g.said g.spare g.row.vars c.entry_at-entry.result c.len.result c.requires.ready c.len.ensures c.entry_at-entry.ensures in
    let at = entry-of g.said g.spare g.row.vars c.entry_at-entry.result c.len.result c.requires.ready c.len.ensures c.entry_at-entry.ensures in
    slice_get_within c.take_up.new.self.row.vars c.entry_at-entry.result m.0.var (c.take_up.ensures.vars c.entry_at-entry.result m.0.var at)

pub add-requires-clause-closed : goal.add-requires-clause-closed
add-requires-clause-closed c =
    let g = c.args.goals.now in
    let m = parted g.said g.spare g.row.vars c.entry_at-entry.result c.len.result c.requires.ready c.len.ensures c.entry_at-entry.ensures in
    let at = entry-of g.said g.spare g.row.vars c.entry_at-entry.result c.len.result c.requires.ready c.len.ensures c.entry_at-entry.ensures in
    let then = at-entry c.take_up.new.self.row.vars c.entry_at-entry.result m.0.var (c.take_up.ensures.vars c.entry_at-entry.result m.0.var at) in
    let once : has (vars_at g.said) m.0.var ≡ false = ap (has (vars_at g.said)) (sym (at-entry g.row.vars c.entry_at-entry.result m.0.var at)) ∙ sym c.names_entry-is_named.ensures ∙ c.if-is_named.false in
    ap (has c.take_up.new.self.row.linked) then ∙ ap (λ (l : List Var). has l m.0.var) c.take_up.ensures.linked
    ∙ not-open g.said c.args.trail.now g.row.linked m.0.var c.requires.opened once

pub returns-clause-opened : goal.returns-clause-opened
returns-clause-opened c =
    let g = c.args.goals.now in
    let m = parted g.said g.spare g.row.vars c.entry_at-entry.result c.len.result c.requires.ready c.len.ensures c.entry_at-entry.ensures in
    let at = entry-of g.said g.spare g.row.vars c.entry_at-entry.result c.len.result c.requires.ready c.len.ensures c.entry_at-entry.ensures in
    let then = at-entry c.take_up.new.self.row.vars c.entry_at-entry.result m.0.var (c.take_up.ensures.vars c.entry_at-entry.result m.0.var at) in
    let after = one-more g.said g.spare g.row.vars c.entry_at-entry.result c.len.result c.requires.ready c.len.ensures c.entry_at-entry.ensures c.take_up.new.self.said c.take_up.ensures.said in
    more-open g.said c.add.new.self.said m.0 c.args.trail.now g.row.linked c.add.new.self.row.linked c.requires.opened (c.add.ensures.said ∙ after)
    (ap (λ (w : Var). is_some (value_in c.args.trail.now w)) (sym (c.var_of.ensures ∙ then)) ∙ sym c.has.ensures ∙ c.if-has.false)
    (λ v. c.add.ensures.linked v ∙ ap (λ (w : Var). same_var w v || has c.take_up.new.self.row.linked v) then
    ∙ ap (λ (l : List Var). same_var m.0.var v || has l v) c.take_up.ensures.linked)

pub returns-clause-kept : goal.returns-clause-kept
returns-clause-kept c n v sides chosen k =
    let g = c.args.goals.now in
    let m = parted g.said g.spare g.row.vars c.entry_at-entry.result c.len.result c.requires.ready c.len.ensures c.entry_at-entry.ensures in
    let at = entry-of g.said g.spare g.row.vars c.entry_at-entry.result c.len.result c.requires.ready c.len.ensures c.entry_at-entry.ensures in
    let then = at-entry c.take_up.new.self.row.vars c.entry_at-entry.result m.0.var (c.take_up.ensures.vars c.entry_at-entry.result m.0.var at) in
    let free = ap (λ (w : Var). is_some (value_in c.args.trail.now w)) (sym (c.var_of.ensures ∙ then)) ∙ sym c.has.ensures ∙ c.if-has.false in
    c.add.ensures.kept n v sides (ap (λ (w : Var). is_other w v) then ∙ chosen-other c.args.trail.now m.0.var v free chosen) (c.take_up.ensures.kept n v sides refl k)
