use Rattle.std.proofs.Common.{◌≡◌, ◌∙◌, List, true, length, sym, ap, subst}
use Rattle.std.specs.List.{Contains}
use Rattle.choice_problem.specs.declared.problem.Choice.{Choice}
use Rattle.choice_problem.specs.Assignment.{is_yes}
use Rattle.choice_problem.specs.Trail.{value_in}
use Rattle.demand_agreement.specs.Clashes.{AreSuspects}
use Rattle.validation.specs.View.{View}
use Rattle.choice_stack.specs.Stack.{AllBelow}
use Rattle.validation.proofs.Disagreeing.{pending-yes}
use Rattle.validation.proofs.pending.Pending.disagreement.Goals as goal

pub values_with-trail-requires : goal.values_with-trail-requires
values_with-trail-requires c = c.self.invariant.free

pub agreement_set_of-requires-clause-active : goal.agreement_set_of-requires-clause-active
agreement_set_of-requires-clause-active c d k =
    let i = c.self.inside in
    subst (λ (t : List Choice). is_yes (value_in t) d ≡ true) (sym c.values_with-trail.ensures)
    (pending-yes i.stack.now i.addition.now i.woken i.fresh i.count c.self.invariant d (subst (λ (x : View). Contains x.active d) (sym c.self.view_is) k))

pub agreement_set_of-requires-clause-within : goal.agreement_set_of-requires-clause-within
agreement_set_of-requires-clause-within c = subst (AllBelow (length c.args.self.now.active)) (sym c.as_slice.ensures.value) c.in_ok-places.ensures.within

pub agreement_set_of-requires-clause-suspects : goal.agreement_set_of-requires-clause-suspects
agreement_set_of-requires-clause-suspects c =
    let trail_is : c.args.self.now.trail ≡ c.values_with-trail.result = ap (λ (x : View). x.trail) (sym c.self.view_is) ∙ sym c.values_with-trail.ensures in
    subst (λ (t : List Choice). AreSuspects t c.args.self.now.active c.as_slice.result.now) trail_is
    (subst (AreSuspects c.args.self.now.trail c.args.self.now.active) (sym c.as_slice.ensures.value) c.in_ok-places.ensures.suspects)
