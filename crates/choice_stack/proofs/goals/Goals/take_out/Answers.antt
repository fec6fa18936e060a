use Rattle.std.proofs.Common.{◌≡◌, ◌<◌, ◌∙◌, sym, ap, subst, length, Some, None}
use Rattle.std.specs.List.{slice_get}
use Rattle.choice_problem.specs.ConflictSet.{is_rising}
use Rattle.goal_links.specs.Links.{unlinked}
use Rattle.goal_links.specs.Mentions.{Mentioned}
use Rattle.choice_stack.proofs.OpenVariables.{taken-has, taken-keeps, taken-kept, taken-order}
use Rattle.choice_stack.proofs.goals.Goals.take_out.Goals as goal

pub invariant_of-self : goal.invariant_of-self
invariant_of-self c = taken-order _ _ c.args.entry (subst (λ (m : Mentioned). c.args.entry < length m.row.vars) (sym c.self.view_is) c.requires.entry) c.unlink.ensures.row c.self.invariant

pub returns-clause-linked : goal.returns-clause-linked
returns-clause-linked c = taken-has _ _ c.args.entry c.requires.entry (c.unlink.ensures.row ∙ ap (λ (m : Mentioned). unlinked m.row c.args.entry) c.self.view_is)

pub returns-clause-taken : goal.returns-clause-taken
returns-clause-taken c =
    let kept : slice_get c.args.self.now.row.kept c.args.entry ≡ Some None = ap (λ (m : Mentioned). slice_get m.row.kept c.args.entry) (sym c.self.view_is) ∙ c.unlink.ensures.was.kept in
    taken-keeps _ _ c.args.entry c.requires.entry (c.unlink.ensures.row ∙ ap (λ (m : Mentioned). unlinked m.row c.args.entry) c.self.view_is) kept

pub returns-clause-rising : goal.returns-clause-rising
returns-clause-rising c = ap (λ (m : Mentioned). is_rising m.row.linked) (sym c.self.view_is) ∙ c.unlink.ensures.was.rising

pub returns-clause-kept : goal.returns-clause-kept
returns-clause-kept c =
    let kept : slice_get c.args.self.now.row.kept c.args.entry ≡ Some None = ap (λ (m : Mentioned). slice_get m.row.kept c.args.entry) (sym c.self.view_is) ∙ c.unlink.ensures.was.kept in
    taken-kept _ _ c.args.entry c.requires.entry (c.unlink.ensures.row ∙ ap (λ (m : Mentioned). unlinked m.row c.args.entry) c.self.view_is) kept
