use Rattle.std.proofs.Common.{rules, Some, ◌≡◌, ◌+◌, ◌++◌, append_assoc, drop, flat_map, sym, ap, ◌∙◌, subst}
use Rattle.std.proofs.lemmas.List.Concat.{flat_map-append}
use Rattle.common_laws.specs.Lists.{drop_at}
use Rattle.plan_types.specs.Refusal.{RefusesAt}
use Rattle.plan_types.specs.declared.refusal.Cause.TheVariants.{TooManyPaths}
use Rattle.plan_types.specs.Guarded.{in_groups, of_group}
use Rattle.flatten.specs.Demands.{demands_at, first_among, outward_among, outward_in}
use Rattle.std.specs.Prelude.{slice_get}
use Rattle.impossible_conditions.specs.Outlook.{IsOutlookAt}
use Rattle.impossible_conditions.proofs.OutlookPlaces.{outlook-at}
use Rattle.flatten.proofs.FirstBeyond.{none_among, some_among}
use Rattle.plan_types.proofs.OutcomeLemmas.{refused-as}
use Rattle.flatten.proofs.DependencyGroups.{outward-append}
use Rattle.flatten.proofs.JoinedPaths.{nothing_beyond, nothing_asked}
use Rattle.flatten.proofs.demands.push_component.Goals as goal

pub returns-then-not-asks_others-clause-none_beyond : goal.returns-then-not-asks_others-clause-none_beyond
returns-then-not-asks_others-clause-none_beyond c = nothing_beyond c.args.env.now c.args.component.now (sym c.asks_others.ensures ∙ c.if-not-asks_others.true)

pub returns-then-not-asks_others-clause-demands : goal.returns-then-not-asks_others-clause-demands
returns-then-not-asks_others-clause-demands c = nothing_asked c.args.env.now c.args.component.now (sym c.asks_others.ensures ∙ c.if-not-asks_others.true) c.args.flat.now

pub ways_of-requires : goal.ways_of-requires
ways_of-requires c =
    let env = c.args.env.now in
    let cond = c.buildable.result.now in
    let place = c.tabled-place.result.1 in
    let there = c.tabled-place.ensures.buildable ∙ ap Some (sym c.buildable.ensures) in
    let known = outlook-at env c.tabled-place.result.0.now c.in_ok-outlooks.outlooks.items place cond c.in_ok-outlooks.ensures there in
    subst (λ items. IsOutlookAt env cond items place) (sym c.deref.ensures.value) known

pub push_group-requires-clause-known : goal.push_group-requires-clause-known
push_group-requires-clause-known c =
    let group = c.group-item.result in
    let there = subst (λ asked. slice_get c.tabled-place.result.0.now asked.number ≡ Some asked.when) (sym c.group-item.is) (c.tabled-place.ensures.tabled c.loop-group.group-index group c.loop-group-test.true) in
    let known = outlook-at c.args.env.now c.tabled-place.result.0.now c.in_ok-outlooks.outlooks.items group.number group.when c.in_ok-outlooks.ensures there in
    subst (λ items. IsOutlookAt c.args.env.now group.when items group.number) (sym c.deref-in-loop-group.ensures.value) known

pub loop-group-preserved : goal.loop-group-preserved
loop-group-preserved c =
    let env = c.args.env.now in
    let component = c.args.component.now in
    let items = c.tabled-place.result.2.now in
    let group = c.group-item.result in
    let own = outward_among component (of_group group) in
    let more = outward_among component (in_groups (drop (c.loop-group.group-index + 1) items)) in
    let split = ap (λ l. outward_among component (in_groups l)) (drop_at items c.loop-group.group-index group c.loop-group-test.true c.group-item.is)
    ∙ outward-append component (of_group group) (in_groups (drop (c.loop-group.group-index + 1) items)) in
    record {
      demands =
          ap (λ l. l ++ flat_map (demands_at env) more) c.in_ok-push_group.ensures.demands
          ∙ append_assoc c.loop-group.flat (flat_map (demands_at env) own) (flat_map (demands_at env) more)
          ∙ ap (λ l. c.loop-group.flat ++ l) (sym (flat_map-append (demands_at env) own more))
          ∙ ap (λ l. c.loop-group.flat ++ flat_map (demands_at env) l) (sym split)
          ∙ c.loop-group.invariant.demands;
      first = sym (none_among env own more c.in_ok-push_group.ensures.none_beyond) ∙ ap (first_among env) (sym split) ∙ c.loop-group.invariant.first;
    }

pub returns-in_err-push_group-clause-refused : goal.returns-in_err-push_group-clause-refused
returns-in_err-push_group-clause-refused c =
    let env = c.args.env.now in
    let component = c.args.component.now in
    let items = c.tabled-place.result.2.now in
    let group = c.group-item.result in
    let more = in_groups (drop (c.loop-group.group-index + 1) items) in
    let split = ap (λ l. outward_among component (in_groups l)) (drop_at items c.loop-group.group-index group c.loop-group-test.true c.group-item.is)
    ∙ outward-append component (of_group group) more in
    let told : RefusesAt (λ line cause. (cause ≡ TooManyPaths) × (first_among env (outward_in component) ≡ Some line)) c.in_err-push_group.field-0.0 =
    refused-as c.in_err-push_group.field-0.0 _ _ (λ line cause h. (
      h.0,
      sym c.loop-group.invariant.first ∙ ap (first_among env) split ∙ some_among env (outward_among component (of_group group)) (outward_among component more) line h.1,
    )) c.in_err-push_group.ensures.refused in
    search rules
