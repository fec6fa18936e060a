use Rattle.std.proofs.Common.{◌≡◌, ◌∙◌, ◌++◌, List, None, sym, ap, find}
use Rattle.choice_problem.specs.declared.problem.Choice.{Choice}
use Rattle.choice_problem.specs.Conflict.{is_broken, set_of_first}
use Rattle.validation.specs.View.{View}
use Rattle.validation.specs.Pending.{first_broken}
use Rattle.validation.proofs.Verdicts.{none-from}
use Rattle.validation.proofs.Weighed.{first-left, first-right, pending-broken}
use Rattle.validation.proofs.pending.Pending.broken.Goals as goal

pub values_with-trail-requires : goal.values_with-trail-requires
values_with-trail-requires c = c.self.invariant.free

pub returns-in-Some : goal.returns-in-Some
returns-in-Some c =
    let i = c.self.inside in
    let trail = c.values_with-trail.result in
    sym (first-left (is_broken trail) i.woken i.fresh c.in-Some.set (sym c.in_ok-set.ensures ∙ c.in-Some.is))
    ∙ ap (λ (t : List Choice). set_of_first (find (is_broken t) (i.woken ++ i.fresh))) c.values_with-trail.ensures
    ∙ pending-broken i.stack.now i.addition.now i.woken i.fresh i.count c.self.invariant
    ∙ ap (λ (x : View). set_of_first (first_broken x)) c.self.view_is

pub returns : goal.returns
returns c =
    let i = c.self.inside in
    let trail = c.values_with-trail.result in
    let none : c.in_ok-set.field-0 ≡ None = none-from c.in_ok-set.field-0 c.in_default.not-Some in
    c.in_ok-set-2.ensures
    ∙ sym (first-right (is_broken trail) i.woken i.fresh (sym c.in_ok-set.ensures ∙ none))
    ∙ ap (λ (t : List Choice). set_of_first (find (is_broken t) (i.woken ++ i.fresh))) c.values_with-trail.ensures
    ∙ pending-broken i.stack.now i.addition.now i.woken i.fresh i.count c.self.invariant
    ∙ ap (λ (x : View). set_of_first (first_broken x)) c.self.view_is
