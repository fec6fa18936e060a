use Rattle.std.proofs.Common.{◌≡◌, ◌∙◌, ◌-◌, ◌++◌, ℕ, List, None, length, take, sym, ap, subst, arith}
use Rattle.choice_problem.specs.declared.problem.Choice.{Choice}
use Rattle.choice_problem.specs.Conflict.{first_clash}
use Rattle.demand_agreement.specs.Clashes.{AreSuspects}
use Rattle.demand_agreement.specs.Places.{places_on}
use Rattle.validation.specs.View.{View}
use Rattle.validation.specs.Pending.{IsFirstInstance, count_before}
use Rattle.choice_stack.specs.Stack.{AllBelow, front_of, made, rising_from}
use Rattle.validation.proofs.Weighed.{weighed-clash}
use Rattle.validation.proofs.Disagreeing.{suspected, suspected-below, are-suspected, woken-ones, woken-below, woken-suspected}
use Rattle.validation.proofs.pending.Pending.suspects.Goals as goal

pub returns-then-is_first_instance-clause-within : goal.returns-then-is_first_instance-clause-within
returns-then-is_first_instance-clause-within c =
    let i = c.self.inside in
    let size : i.count - c.len.result - length i.stack.now.active ≡ length i.woken = omega (arith, c.self.invariant.counted, c.len.ensures) in
    let places : c.push_range.new.places.items ≡ woken-ones i.stack.now i.addition.now i.woken i.fresh i.count c.self.invariant =
    c.in_ok-push_range.ensures
    ∙ ap (λ (l : List ℕ). l ++ rising_from c.count-before.result (i.count - c.len.result - c.count-before.result)) c.new-places.ensures.items
    ∙ ap (λ (n : ℕ). rising_from n (i.count - c.len.result - n)) c.count-before.ensures ∙ ap (rising_from (length i.stack.now.active)) size in
    subst (λ (x : View). AllBelow (length x.active) c.push_range.new.places.items) c.self.view_is
    (subst (AllBelow (length (made i.stack.now i.addition.now.choice i.addition.now.demands).active)) (sym places)
    (woken-below i.stack.now i.addition.now i.woken i.fresh i.count c.self.invariant))

pub returns-then-is_first_instance-clause-suspects : goal.returns-then-is_first_instance-clause-suspects
returns-then-is_first_instance-clause-suspects c =
    let i = c.self.inside in
    let made_is = made i.stack.now i.addition.now.choice i.addition.now.demands in
    let size : i.count - c.len.result - length i.stack.now.active ≡ length i.woken = omega (arith, c.self.invariant.counted, c.len.ensures) in
    let places : c.push_range.new.places.items ≡ woken-ones i.stack.now i.addition.now i.woken i.fresh i.count c.self.invariant =
    c.in_ok-push_range.ensures
    ∙ ap (λ (l : List ℕ). l ++ rising_from c.count-before.result (i.count - c.len.result - c.count-before.result)) c.new-places.ensures.items
    ∙ ap (λ (n : ℕ). rising_from n (i.count - c.len.result - n)) c.count-before.ensures ∙ ap (rising_from (length i.stack.now.active)) size in
    let none : first_clash i.stack.now.trail i.stack.now.active ≡ None =
    sym (weighed-clash i.stack.now i.addition.now.choice i.addition.now.demands)
    ∙ ap (λ (x : View). first_clash (front_of x.trail) (take (count_before x) x.active)) c.self.view_is ∙ c.requires in
    let first : IsFirstInstance i.stack.now.trail i.addition.now.choice.var =
    subst (λ (t : List Choice). IsFirstInstance t i.addition.now.choice.var) c.trail.ensures.trail (c.is_first_instance.ensures c.if-is_first_instance.true) in
    subst (λ (x : View). AreSuspects x.trail x.active c.push_range.new.places.items) c.self.view_is
    (subst (λ (l : List ℕ). AreSuspects made_is.trail made_is.active l) (sym places)
    (woken-suspected i.stack.now i.addition.now i.woken i.fresh i.count c.self.invariant first none))

pub returns-clause-within : goal.returns-clause-within
returns-clause-within c =
    let i = c.self.inside in
    let places : c.push_range-2.new.places.items ≡ suspected i.stack.now i.addition.now i.woken i.fresh i.count c.self.invariant =
    c.in_ok-push_range-2.ensures
    ∙ ap (λ (l : List ℕ). l ++ rising_from c.count-before.result (i.count - c.count-before.result)) c.in_ok-places.ensures
    ∙ ap (λ (n : ℕ). places_on i.addition.now.choice.var i.stack.now.active ++ rising_from n (i.count - n)) c.count-before.ensures in
    subst (λ (x : View). AllBelow (length x.active) c.push_range-2.new.places.items) c.self.view_is
    (subst (AllBelow (length (made i.stack.now i.addition.now.choice i.addition.now.demands).active)) (sym places)
    (suspected-below i.stack.now i.addition.now i.woken i.fresh i.count c.self.invariant))

pub returns-clause-suspects : goal.returns-clause-suspects
returns-clause-suspects c =
    let i = c.self.inside in
    let made_is = made i.stack.now i.addition.now.choice i.addition.now.demands in
    let places : c.push_range-2.new.places.items ≡ suspected i.stack.now i.addition.now i.woken i.fresh i.count c.self.invariant =
    c.in_ok-push_range-2.ensures
    ∙ ap (λ (l : List ℕ). l ++ rising_from c.count-before.result (i.count - c.count-before.result)) c.in_ok-places.ensures
    ∙ ap (λ (n : ℕ). places_on i.addition.now.choice.var i.stack.now.active ++ rising_from n (i.count - n)) c.count-before.ensures in
    let none : first_clash i.stack.now.trail i.stack.now.active ≡ None =
    sym (weighed-clash i.stack.now i.addition.now.choice i.addition.now.demands)
    ∙ ap (λ (x : View). first_clash (front_of x.trail) (take (count_before x) x.active)) c.self.view_is ∙ c.requires in
    subst (λ (x : View). AreSuspects x.trail x.active c.push_range-2.new.places.items) c.self.view_is
    (subst (λ (l : List ℕ). AreSuspects made_is.trail made_is.active l) (sym places)
    (are-suspected i.stack.now i.addition.now i.woken i.fresh i.count c.self.invariant none))
