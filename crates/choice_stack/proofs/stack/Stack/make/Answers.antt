use Rattle.std.proofs.Common.{◌≡◌, ◌++◌, ◌∙◌, ◌&&◌, List, length, map, take, refl, sym, ap, subst, true, None}
use Rattle.std.proofs.lemmas.Option.{slice_get_within}
use Rattle.qualified_goals.specs.declared.variable.Var.{Var}
use Rattle.qualified_goals.specs.Variable.{same_var}
use Rattle.choice_problem.specs.declared.problem.Demand.{Demand}
use Rattle.choice_problem.specs.Trail.{value_in}
use Rattle.choice_problem.specs.ConflictSet.{has}
use Rattle.goal_links.specs.Beside.{beside}
use Rattle.goal_links.specs.Links.{var_at}
use Rattle.goal_links.specs.Mentions.{vars_at}
use Rattle.goal_links.specs.declared.mentions.Mention.{Mention}
use Rattle.goal_links.proofs.ChainWalks.{at-entry}
use Rattle.choice_stack.specs.declared.stack.Mark.{Mark}
use Rattle.choice_stack.specs.Growth.{mentions_at}
use Rattle.choice_stack.specs.Open.{Keeps, is_other}
use Rattle.choice_stack.specs.Stack.{AllBelow, AreOpen, AreParts, watchers_from}
use Rattle.choice_stack.specs.View.{View}
use Rattle.choice_stack.proofs.StackLemmas.{marks-targets, parts-grow, parts-hold, parts-keep, parts-open, parts-same, targets-vars}
use Rattle.choice_stack.proofs.Grown.{asked-same, grown-targets, made-seen}
use Rattle.choice_stack.proofs.stack.Stack.make.Goals as goal
use Rattle.choice_stack.proofs.stack.Stack.make.Goals.{After-make_ready, After-take_out, After-activate}

-- the rows as they are once there is room: the choice's variable is new to the trail, and a target
module _ (c : After-make_ready) where
  kept : AreParts c.self.inside.trail c.self.inside.marks.items c.self.inside.listed.items c.self.inside.goals.said c.self.inside.watchers.said c.make_ready.new.goals.row
  kept =
      let s = c.self.inside in
      parts-keep s.trail s.marks.items s.listed.items s.goals.said s.watchers.said s.goals.row c.make_ready.new.goals.row c.self.invariant c.make_ready.ensures.linked c.make_ready.ensures.kept

  free : value_in c.self.inside.trail c.args.addition.choice.var ≡ None
  free = ap (λ (x : View). value_in x.trail c.args.addition.choice.var) c.self.view_is ∙ c.requires.new

  asked : has (vars_at c.self.inside.goals.said) c.args.addition.choice.var ≡ true
  asked =
      let v = c.args.addition.choice.var in
      ap (λ vs. has vs v) (sym (targets-vars c.self.inside.listed.items c.self.inside.goals.said (marks-targets c.self.invariant.levels)))
      ∙ ap (λ (x : View). has (map (λ d. d.target) x.active) v) c.self.view_is ∙ c.requires.asked

  open-still : has c.make_ready.new.goals.row.linked c.args.addition.choice.var ≡ true
  open-still =
      let s = c.self.inside in
      parts-open s.trail s.marks.items s.listed.items s.goals.said s.watchers.said c.make_ready.new.goals.row c.args.addition.choice.var kept free asked

-- the mark of the choice, and the parts with it
module _ (c : After-take_out) where
  abbrev mark : Mark
  mark = record { listed = c.len.result; watchers = c.len-2.result; active = c.len-3.result; entry = c.entry-entry.result }

  listed-length : c.len.result ≡ length c.self.inside.listed.items
  listed-length = c.len.ensures ∙ c.make_ready.new.listed.ok.0 ∙ ap length c.make_ready.ensures.listed

  active-length : c.len-3.result ≡ length c.self.inside.goals.said
  active-length = c.len-3.ensures ∙ ap length c.make_ready.ensures.said

  held : AreParts c.self.inside.trail c.self.inside.marks.items c.self.inside.listed.items c.self.inside.goals.said c.self.inside.watchers.said c.make_ready.new.goals.row
      → value_in c.self.inside.trail c.args.addition.choice.var ≡ None → has (vars_at c.self.inside.goals.said) c.args.addition.choice.var ≡ true
      → AreParts c.add_level.new.trail c.add_level.new.marks.items c.self.inside.listed.items c.self.inside.goals.said c.self.inside.watchers.said c.take_out.new.self.row
  held kept free asked =
      let s = c.self.inside in
      let row = c.make_ready.new.goals.row in
      let choice = c.args.addition.choice in
      let at : var_at row.vars c.entry-entry.result ≡ choice.var = at-entry row.vars c.entry-entry.result choice.var c.entry-entry.ensures in
      let levels = c.in_ok-add_level.ensures.ok in
      parts-hold s.trail c.add_level.new.trail s.marks.items c.add_level.new.marks.items s.listed.items s.goals.said s.watchers.said row c.take_out.new.self.row
      choice mark kept free asked listed-length active-length (c.len-2.ensures ∙ ap length c.make_ready.ensures.watchers) levels.0 levels.1 c.take_out.ensures.rising
      (subst (λ (v : Var). Keeps c.take_out.new.self.row c.entry-entry.result v (beside (same_var v) row.linked)) at c.take_out.ensures.taken)
      c.take_out.ensures.kept
      (λ v. c.take_out.ensures.linked v ∙ ap (λ (w : Var). is_other w v && has row.linked v) at)

-- the demands listed and active in the end
module _ (c : After-activate) where
  abbrev all : List Mention
  all = mentions_at 0 c.self.inside.listed.items c.args.addition.woken.items ++ mentions_at (length c.self.inside.listed.items) c.args.addition.demands c.args.addition.fresh.items

  all-is : take c.in_ok-ready.ready.active c.make_ready.new.goals.spare ≡ all
  all-is =
      let a = c.args.addition in
      c.in_ok-ready.ensures.ready.active_is
      ∙ asked-same c.make_ready.new.listed.items c.self.inside.listed.items c.as_slice.result.now a.demands c.as_slice-2.result.now a.woken.items c.as_slice-3.result.now a.fresh.items
      c.make_ready.ensures.listed c.as_slice.ensures c.as_slice-2.ensures.value c.as_slice-3.ensures.value

  listed : c.list_all.new.listed.items ≡ c.self.inside.listed.items ++ c.args.addition.demands
  listed = c.list_all.ensures ∙ ap (λ (ds : List Demand). ds ++ c.args.addition.demands) c.make_ready.ensures.listed

  active : c.activate.new.goals.said ≡ c.self.inside.goals.said ++ all
  active =
      let said = c.self.inside.goals.said in
      c.activate.ensures.active ∙ ap (λ (ms : List Mention). ms ++ take c.in_ok-ready.ready.active c.take_out.new.self.spare) (c.take_out.ensures.said ∙ c.make_ready.ensures.said)
      ∙ ap (λ (ms : List Mention). said ++ take c.in_ok-ready.ready.active ms) c.take_out.ensures.spare ∙ ap (λ (ms : List Mention). said ++ ms) all-is

pub invariant_of-self : goal.invariant_of-self
invariant_of-self c =
    let s = c.self.inside in
    parts-same s.trail s.trail s.marks.items s.marks.items s.listed.items c.make_ready.new.listed.items s.goals.said c.make_ready.new.goals.said s.watchers.said
    c.make_ready.new.watchers.said c.make_ready.new.goals.row refl refl c.make_ready.ensures.listed c.make_ready.ensures.said c.make_ready.ensures.watchers
    (kept (goal.at.invariant_of-self c).After-make_ready)

pub entry-entry-requires : goal.entry-entry-requires
entry-entry-requires c = open-still (goal.at.entry-entry-requires c).After-make_ready

pub invariant_of-self-in_err-add_level : goal.invariant_of-self-in_err-add_level
invariant_of-self-in_err-add_level c =
    let s = c.self.inside in
    let same = c.in_err-add_level.ensures.err in
    parts-same s.trail c.add_level.new.trail s.marks.items c.add_level.new.marks.items s.listed.items c.make_ready.new.listed.items s.goals.said c.make_ready.new.goals.said s.watchers.said
    c.make_ready.new.watchers.said c.make_ready.new.goals.row same.0 same.1 c.make_ready.ensures.listed c.make_ready.ensures.said c.make_ready.ensures.watchers
    (kept (goal.at.invariant_of-self-in_err-add_level c).After-make_ready)

pub take_out-requires-clause-entry : goal.take_out-requires-clause-entry
take_out-requires-clause-entry c = slice_get_within c.make_ready.new.goals.row.vars c.entry-entry.result c.args.addition.choice.var c.entry-entry.ensures

pub take_out-requires-clause-open : goal.take_out-requires-clause-open
take_out-requires-clause-open c =
    let row = c.make_ready.new.goals.row in
    ap (has row.linked) (at-entry row.vars c.entry-entry.result c.args.addition.choice.var c.entry-entry.ensures) ∙ open-still (goal.at.take_out-requires-clause-open c).After-make_ready

pub activate-requires-clause-opened : goal.activate-requires-clause-opened
activate-requires-clause-opened c =
    let g = goal.at.activate-requires-clause-opened c in
    subst (λ (ms : List Mention). AreOpen ms c.add_level.new.trail c.take_out.new.self.row.linked) (sym (c.take_out.ensures.said ∙ c.make_ready.ensures.said))
    (held g.After-take_out (kept g.After-make_ready) (free g.After-make_ready) (asked g.After-make_ready)).opened

pub invariant_of-self-2 : goal.invariant_of-self-2
invariant_of-self-2 c =
    let g = goal.at.invariant_of-self-2 c in
    let s = c.self.inside in
    let a = c.args.addition in
    let r = g.After-make_ready in
    let below : AllBelow (length s.listed.items) a.woken.items = subst (λ (x : View). AllBelow (length x.listed) a.woken.items) (sym c.self.view_is) c.requires.turned.woken.within in
    parts-grow c.add_level.new.trail c.add_level.new.marks.items s.listed.items c.list_all.new.listed.items a.demands s.goals.said (all g.After-activate) c.activate.new.goals.said
    s.watchers.said c.take_up_all.new.self.said c.take_out.new.self.row c.activate.new.goals.row (held g.After-take_out (kept r) (free r) (asked r))
    (listed g.After-activate) (active g.After-activate)
    (c.take_up_all.ensures ∙ ap (λ (ms : List Mention). ms ++ take c.in_ok-ready.ready.waiting c.make_ready.new.watchers.spare) c.make_ready.ensures.watchers
    ∙ ap (λ (ms : List Mention). s.watchers.said ++ ms) c.in_ok-ready.ensures.ready.waiting_is
    ∙ ap (λ (ds : List Demand). s.watchers.said ++ watchers_from (length ds) c.as_slice.result.now) c.make_ready.ensures.listed
    ∙ ap (λ (ds : List Demand). s.watchers.said ++ watchers_from (length s.listed.items) ds) c.as_slice.ensures)
    (grown-targets s.listed.items a.demands s.goals.said a.woken.items a.fresh.items (marks-targets c.self.invariant.levels) below c.requires.turned.fresh.within)
    c.activate.ensures.opened c.activate.ensures.kept

pub returns-clause-ok : goal.returns-clause-ok
returns-clause-ok c =
    let g = goal.at.returns-clause-ok c in
    let s = c.self.inside in
    let levels = c.in_ok-add_level.ensures.ok in
    made-seen c.args.self.now c.args.addition s.trail c.add_level.new.trail s.marks.items c.add_level.new.marks.items s.listed.items c.list_all.new.listed.items s.goals.said
    c.activate.new.goals.said (mark g.After-take_out) (marks-targets c.self.invariant.levels) c.requires.turned c.self.view_is levels.0 levels.1 (listed-length g.After-take_out)
    (active-length g.After-take_out) (listed g.After-activate) (active g.After-activate)
