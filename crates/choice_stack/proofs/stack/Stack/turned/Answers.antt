use Rattle.std.proofs.Common.{◌≡◌, ℕ, sym, ap, subst, length, filter}
use Rattle.choice_problem.specs.Assignment.{is_yes}
use Rattle.choice_problem.specs.Trail.{value_in}
use Rattle.choice_stack.specs.View.{View}
use Rattle.choice_stack.specs.Stack.{AllBelow, demand_at, demands_at, turned}
use Rattle.choice_stack.proofs.DemandPlaces.{below-filter}
use Rattle.choice_stack.proofs.Turned.{turned-below, turned-seen}
use Rattle.choice_stack.proofs.stack.Stack.turned.Goals as goal

pub yes_among-requires : goal.yes_among-requires
yes_among-requires c =
    turned-below c.args.v c.self.inside.listed.items c.as_slice.result.now c.self.inside.watchers.said c.places-places.result
    c.self.invariant.waiting c.places-places.ensures c.as_slice.ensures.value

pub returns-clause-demands : goal.returns-clause-demands
returns-clause-demands c =
    subst (λ (x : View). demands_at x.listed c.in_ok-found.found.items ≡ turned c.args.trail.now c.args.v x.listed) c.self.view_is
    (turned-seen c.args.v c.args.trail.now c.self.inside.listed.items c.as_slice.result.now c.self.inside.watchers.said c.places-places.result
    c.in_ok-found.found.items c.self.invariant.waiting c.places-places.ensures c.as_slice.ensures.value c.in_ok-found.ensures)

pub returns-clause-within : goal.returns-clause-within
returns-clause-within c =
    let seen = c.as_slice.result.now in
    let test = λ (k : ℕ). is_yes (value_in c.args.trail.now) (demand_at seen k) in
    let below =
    turned-below c.args.v c.self.inside.listed.items seen c.self.inside.watchers.said c.places-places.result
    c.self.invariant.waiting c.places-places.ensures c.as_slice.ensures.value in
    let found : c.in_ok-found.found.items ≡ filter test c.places-places.result = c.in_ok-found.ensures in
    subst (λ (x : View). AllBelow (length x.listed) c.in_ok-found.found.items) c.self.view_is
    (subst (λ n. AllBelow n c.in_ok-found.found.items) (ap length c.as_slice.ensures.value)
    (subst (AllBelow (length seen)) (sym found) (below-filter (length seen) test c.places-places.result below)))
