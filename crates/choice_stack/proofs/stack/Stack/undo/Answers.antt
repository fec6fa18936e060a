use Rattle.std.proofs.Common.{◌≡◌, ◌∙◌, ◌||◌, ◌++◌, ◌∷◌, [], List, sym, ap, subst}
use Rattle.qualified_goals.specs.declared.variable.Var.{Var}
use Rattle.qualified_goals.specs.Variable.{same_var}
use Rattle.choice_problem.specs.declared.problem.Choice.{Choice}
use Rattle.choice_problem.specs.ConflictSet.{has}
use Rattle.goal_links.specs.Beside.{beside}
use Rattle.goal_links.specs.Links.{var_at}
use Rattle.goal_links.specs.declared.mentions.Mention.{Mention}
use Rattle.choice_stack.specs.Open.{StayKept, is_other, is_chosen_in}
use Rattle.goal_links.specs.Mentions.{vars_at}
use Rattle.choice_stack.specs.Stack.{AreOpen, IsHeld, IsMark, undone}
use Rattle.choice_stack.specs.View.{View}
use Rattle.goal_links.proofs.LastItems.{pop-is, pop-some}
use Rattle.goal_links.proofs.ChainWalks.{at-entry}
use Rattle.choice_stack.proofs.StackLemmas.{chosen-last, marks-undo, comes-back, parts-undo, undone-seen}
use Rattle.choice_stack.proofs.stack.Stack.undo.Goals as goal
use Rattle.choice_stack.proofs.stack.Stack.undo.Goals.{After-pop}

-- the mark and the choice that are removed
module _ (c : After-pop) where
  marks : c.self.inside.marks.items ≡ c.pop_mark.new.marks.items ++ c.unwrap-mark.result ∷ []
  marks = pop-is c.self.inside.marks.items c.pop_mark.new.marks.items c.pop_mark.result c.unwrap-mark.result c.pop_mark.ensures c.unwrap-mark.ensures

  abbrev parted : (last : Choice) × (c.self.inside.trail ≡ c.pop.new.self ++ last ∷ [])
  parted = pop-some c.self.inside.trail c.pop.new.self c.pop.result c.pop.ensures (λ none. c.requires (ap (λ (x : View). x.trail) (sym c.self.view_is) ∙ none))

  abbrev last : Choice
  last = parted.0

  trail : c.self.inside.trail ≡ c.pop.new.self ++ last ∷ []
  trail = parted.1

  level : IsMark c.pop.new.self last c.unwrap-mark.result c.self.inside.listed.items c.self.inside.goals.said c.self.inside.goals.row
  level = (marks-undo c.pop.new.self last c.pop_mark.new.marks.items c.unwrap-mark.result c.self.invariant.levels trail marks).1

pub put_back-requires : goal.put_back-requires
put_back-requires c =
    let p = (goal.at.put_back-requires c).After-pop in
    let s = c.self.inside in
    let asked = c.forget.ensures.active in
    comes-back c.pop.new.self (last p) c.unwrap-mark.result.entry c.forget.new.goals.said s.goals.row c.forget.new.goals.row
    (subst (λ (ms : List Mention). IsHeld c.pop.new.self (last p).var c.unwrap-mark.result.entry ms s.goals.row) (sym asked) (level p).held) (level p).new
    (ap (λ (ms : List Mention). has (vars_at ms) (last p).var) asked ∙ (level p).asked)
    (subst (λ (cs : List Choice). StayKept (is_chosen_in cs) s.goals.row c.forget.new.goals.row) (trail p) c.forget.ensures.kept)
    (subst (λ (cs : List Choice). AreOpen c.forget.new.goals.said cs c.forget.new.goals.row.linked) (trail p) c.forget.ensures.opened)

pub invariant_of-self : goal.invariant_of-self
invariant_of-self c =
    let p = (goal.at.invariant_of-self c).After-pop in
    let s = c.self.inside in
    let kept = c.forget.ensures.kept c.unwrap-mark.result.entry (last p).var (beside (same_var (last p).var) (level p).held.before)
    (chosen-last c.pop.new.self s.trail (last p) (trail p) (level p).new) (level p).held.kept in
    let at : var_at c.forget.new.goals.row.vars c.unwrap-mark.result.entry ≡ (last p).var = at-entry c.forget.new.goals.row.vars c.unwrap-mark.result.entry (last p).var kept.owned in
    parts-undo s.trail c.pop.new.self s.marks.items c.pop_mark.new.marks.items s.listed.items c.truncate.new.self.items s.goals.said c.put_back.new.self.said s.watchers.said c.cut.new.self.said
    s.goals.row c.forget.new.goals.row c.put_back.new.self.row (last p) c.unwrap-mark.result c.self.invariant (trail p) (marks p) (c.put_back.ensures.said ∙ c.forget.ensures.active)
    (subst (λ (ms : List Mention). AreOpen ms s.trail c.forget.new.goals.row.linked) (sym c.put_back.ensures.said) c.forget.ensures.opened) c.forget.ensures.kept
    c.cut.ensures c.truncate.ensures.items
    (λ v. c.put_back.ensures.linked v ∙ ap (λ (w : Var). same_var w v || has c.forget.new.goals.row.linked v) at)
    (subst (λ (w : Var). StayKept (is_other w) c.forget.new.goals.row c.put_back.new.self.row) at c.put_back.ensures.kept)

pub returns : goal.returns
returns c =
    let p = (goal.at.returns c).After-pop in
    let s = c.self.inside in
    undone-seen s.trail c.pop.new.self s.marks.items c.pop_mark.new.marks.items s.listed.items c.truncate.new.self.items s.goals.said c.put_back.new.self.said (last p) c.unwrap-mark.result
    c.self.invariant.levels (trail p) (marks p) (c.put_back.ensures.said ∙ c.forget.ensures.active) c.truncate.ensures.items
    ∙ ap undone c.self.view_is
