use Rattle.std.proofs.Common.{◌≡◌, Option, ◌∙◌, sym, ap}
use Rattle.qualified_goals.specs.declared.variable.Var.{Var}
use Rattle.choice_problem.specs.Active.{waiting}
use Rattle.choice_problem.specs.ConflictSet.{first_behind}
use Rattle.choice_stack.specs.View.{View}
use Rattle.choice_stack.proofs.StackLemmas.{marks-targets}
use Rattle.choice_stack.proofs.Queries.{waiting-is}
use Rattle.choice_stack.proofs.stack.Stack.open_after.Goals as goal
use Rattle.choice_stack.proofs.stack.Stack.open_after.Goals.{in-Some+else-is_open, in_default}

pub returns-then-is_open : goal.returns-then-is_open
returns-then-is_open c =
    let s = c.self.inside in
    c.next.ensures.next ∙ ap (λ (o : Option Var). first_behind o s.goals.row.linked) (sym c.in-Some.is)
    ∙ ap (first_behind c.args.v) (waiting-is s.trail s.listed.items s.goals.said s.goals.row.linked (marks-targets c.self.invariant.levels) c.self.invariant.opened c.next.ensures.rising
    ∙ ap (λ (x : View). waiting x.trail x.active) c.self.view_is)

pub returns : goal.returns
returns c =
    let s = c.self.inside in
    let same : c.match-v.v ≡ c.args.v = elim c.match-v.branch [ in-Some+else-is_open w ↦ w.v-is ∙ sym w.in-Some.is | in_default w ↦ w.v-is ] in
    c.after.ensures.after ∙ ap (λ (o : Option Var). first_behind o s.goals.row.linked) same
    ∙ ap (first_behind c.args.v) (waiting-is s.trail s.listed.items s.goals.said s.goals.row.linked (marks-targets c.self.invariant.levels) c.self.invariant.opened c.after.ensures.rising
    ∙ ap (λ (x : View). waiting x.trail x.active) c.self.view_is)
