use Rattle.std.proofs.Common.{rules, ◌≡◌, ◌+◌, ◌++◌, append-nil, append_assoc, drop, map, flat_map, Some, sym, ap, ◌∙◌}
use Rattle.common_laws.specs.Lists.{drop_at}
use Rattle.plan_types.specs.Guarded.{GuardedDep, of_group}
use Rattle.plan_types.specs.declared.dependency.Dep.{Dep}
use Rattle.flatten.specs.Demands.{demands_at, first_among, outward_among, outward_of}
use Rattle.plan_types.proofs.OutcomeLemmas.{refused-as}
use Rattle.flatten.proofs.DependencyGroups.{is-first, none-other, not-first, passed, taken}
use Rattle.flatten.proofs.JoinedPaths.{asked-both, beyond-both, within-both}
use Rattle.flatten.specs.Ways.{ways_of}
use Rattle.plan_types.specs.Refusal.{RefusesAt}
use Rattle.plan_types.specs.declared.refusal.Cause.TheVariants.{TooManyPaths}
use Rattle.flatten.proofs.demands.push_group.Goals.{then-not-get+in_ok-push_demands, else-not-get}
use Rattle.flatten.proofs.demands.push_group.Goals as goal

pub returns-then-not-has_others-clause-none_beyond : goal.returns-then-not-has_others-clause-none_beyond
returns-then-not-has_others-clause-none_beyond c =
    ap (first_among c.args.env.now) (none-other c.args.built.now.component.now c.args.group.now.when c.args.group.now.deps (sym c.has_others.ensures ∙ c.if-not-has_others.true))

pub returns-then-not-has_others-clause-demands : goal.returns-then-not-has_others-clause-demands
returns-then-not-has_others-clause-demands c =
    sym (ap (λ all. c.args.flat.now ++ flat_map (demands_at c.args.env.now) all) (none-other c.args.built.now.component.now c.args.group.now.when c.args.group.now.deps (sym c.has_others.ensures ∙ c.if-not-has_others.true)) ∙ append-nil c.args.flat.now)

pub loop-dep-preserved : goal.loop-dep-preserved
loop-dep-preserved c =
    let env = c.args.env.now in
    let component = c.args.built.now.component.now in
    let when = c.args.group.now.when in
    let here : Dep → GuardedDep = λ dep. record { when = when; dep = dep } in
    let items = c.as_slice-dep-items.result.now in
    let dep = c.dep-item.result in
    let more = drop (c.loop-dep.dep-index + 1) items in
    let at = outward_of component (here dep) in
    let left = outward_among component (map here more) in
    let whole = outward_among component (of_group c.args.group.now) in
    let on = ap (λ l. outward_among component (map here l)) (drop_at items c.loop-dep.dep-index dep c.loop-dep-test.true c.dep-item.is) in
    let met = c.in_ok-met.ensures ∙ ap (ways_of env) c.get.ensures in
    let demands : c.if-not-get.flat ++ flat_map (demands_at env) left ≡ c.args.flat.now ++ flat_map (demands_at env) whole = elim c.if-not-get.branch [
      | then-not-get+in_ok-push_demands w ↦
          let split = on ∙ taken component when dep more (ap (λ d. d.internal) (sym c.get-in-loop-dep.ensures) ∙ w.if-not-get.true) in
          let pushed = w.flat-is ∙ w.in_ok-push_demands.ensures.demands ∙ ap (λ l. c.loop-dep.flat ++ l) (asked-both env component (here dep) c.requires.ways met w.in_ok-push_demands.ensures.within) in
          ap (λ l. l ++ flat_map (demands_at env) left) pushed
          ∙ append_assoc c.loop-dep.flat (demands_at env at) (flat_map (demands_at env) left)
          ∙ ap (λ l. c.loop-dep.flat ++ flat_map (demands_at env) l) (sym split)
          ∙ c.loop-dep.invariant.demands
      | else-not-get w ↦
          let split = on ∙ passed component when dep more (ap (λ d. d.internal) (sym c.get-in-loop-dep.ensures) ∙ w.if-not-get.false) in
          ap (λ l. l ++ flat_map (demands_at env) left) w.flat-is ∙ ap (λ l. c.loop-dep.flat ++ flat_map (demands_at env) l) (sym split) ∙ c.loop-dep.invariant.demands
    ] in
    let first : first_among env left ≡ first_among env whole = elim c.if-not-get.branch [
      | then-not-get+in_ok-push_demands w ↦
          let split = on ∙ taken component when dep more (ap (λ d. d.internal) (sym c.get-in-loop-dep.ensures) ∙ w.if-not-get.true) in
          sym (not-first env at left (within-both env component (here dep) c.requires.ways met w.in_ok-push_demands.ensures.within)) ∙ ap (first_among env) (sym split) ∙ c.loop-dep.invariant.first
      | else-not-get w ↦
          let split = on ∙ passed component when dep more (ap (λ d. d.internal) (sym c.get-in-loop-dep.ensures) ∙ w.if-not-get.false) in
          ap (first_among env) (sym split) ∙ c.loop-dep.invariant.first
    ] in
    record { demands = demands; first = first }

pub returns-in_err-push_demands-clause-refused : goal.returns-in_err-push_demands-clause-refused
returns-in_err-push_demands-clause-refused c =
    let env = c.args.env.now in
    let component = c.args.built.now.component.now in
    let whole = outward_among component (of_group c.args.group.now) in
    let here : Dep → GuardedDep = λ dep. record { when = c.args.group.now.when; dep = dep } in
    let dep = c.dep-item.result in
    let more = drop (c.loop-dep.dep-index + 1) c.as_slice-dep-items.result.now in
    let met = c.in_ok-met.ensures ∙ ap (ways_of env) c.get.ensures in
    let split = ap (λ l. outward_among component (map here l)) (drop_at c.as_slice-dep-items.result.now c.loop-dep.dep-index dep c.loop-dep-test.true c.dep-item.is)
    ∙ taken component c.args.group.now.when dep more (ap (λ d. d.internal) (sym c.get-in-loop-dep.ensures) ∙ c.if-not-get.true) in
    let told : RefusesAt (λ line cause. (cause ≡ TooManyPaths) × (first_among env whole ≡ Some line)) c.in_err-push_demands.field-0.0 =
    refused-as c.in_err-push_demands.field-0.0 _ _ (λ line cause h. (
      h.0,
      sym c.loop-dep.invariant.first
          ∙ ap (first_among env) split
          ∙ is-first env (outward_of component (here dep)) (outward_among component (map here more)) (beyond-both env component (here dep) c.requires.ways met h.2)
          ∙ ap Some (sym h.1),
    )) c.in_err-push_demands.ensures.refused in
    search rules
