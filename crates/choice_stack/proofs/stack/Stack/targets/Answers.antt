use Rattle.std.proofs.Common.{◌≡◌, ◌∙◌, ℕ, List, filter, refl, sym, ap, subst}
use Rattle.std.specs.List.{Contains}
use Rattle.qualified_goals.specs.declared.variable.Var.{Var}
use Rattle.choice_problem.specs.declared.problem.Choice.{Choice}
use Rattle.choice_problem.specs.declared.problem.Demand.{Demand}
use Rattle.choice_problem.specs.Assignment.{is_yes}
use Rattle.choice_problem.specs.Trail.{value_in}
use Rattle.choice_stack.specs.View.{View}
use Rattle.choice_stack.specs.Stack.{demand_at, demands_at, targets_by, turned}
use Rattle.choice_stack.proofs.DemandGraphs.{targets-edge, edge-targets}
use Rattle.choice_stack.proofs.Turned.{turned-below, turned-seen}
use Rattle.choice_stack.proofs.stack.Stack.targets.Goals as goal

pub yes_targets_at-requires : goal.yes_targets_at-requires
yes_targets_at-requires c =
    turned-below c.args.from c.self.inside.listed.items c.as_slice.result.now c.self.inside.watchers.said c.places-places.result
    c.self.invariant.waiting c.places-places.ensures c.as_slice.ensures.value

pub returns : goal.returns
returns c v =
    let now = c.args.self.now in
    let from = c.args.from in
    let trail = c.values-trail.result in
    let seen = c.as_slice.result.now in
    let places = filter (λ (k : ℕ). is_yes (value_in trail) (demand_at seen k)) c.places-places.result in
    let found : c.from_vec.result ≡ targets_by from (turned now.trail from now.listed) =
    c.from_vec.ensures ∙ c.in_ok-targets.ensures
    ∙ ap (λ (ds : List Demand). targets_by from (demands_at ds places)) c.as_slice.ensures.value
    ∙ ap (targets_by from)
    (turned-seen from trail c.self.inside.listed.items seen c.self.inside.watchers.said c.places-places.result places
    c.self.invariant.waiting c.places-places.ensures c.as_slice.ensures.value refl)
    ∙ ap (λ (x : View). targets_by from (turned trail from x.listed)) c.self.view_is
    ∙ ap (λ (t : List Choice). targets_by from (turned t from now.listed)) c.values-trail.ensures in (
      λ h. targets-edge now from v c.requires (subst (λ (vs : List Var). Contains vs v) found h),
      λ h. subst (λ (vs : List Var). Contains vs v) (sym found) (edge-targets now from v c.requires h),
    )
