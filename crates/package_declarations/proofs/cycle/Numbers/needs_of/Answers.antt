use Rattle.std.proofs.Common.{◌+◌, ◌++◌, append_assoc, drop, flat_map, sym, ap, ◌∙◌}
use Rattle.std.proofs.lemmas.List.Concat.{flat_map-append}
use Rattle.std.proofs.lemmas.List.Folds.{flat_map-map}
use Rattle.common_laws.specs.Lists.{drop_at}
use Rattle.plan_types.specs.Guarded.{GuardedDep, in_groups, of_group}
use Rattle.plan_types.specs.declared.dependency.Dep.{Dep}
use Rattle.package_declarations.specs.Numbers.{number_at, targets_by}
use Rattle.package_declarations.proofs.cycle.Numbers.needs_of.Goals as goal

pub loop-group-preserved : goal.loop-group-preserved
loop-group-preserved c =
    let targets = λ (guarded : GuardedDep). targets_by (number_at c.args.self.now) guarded.dep in
    let items = c.groups-group-items.result.now in
    let group = c.group-item.result in
    let here : Dep → GuardedDep = λ dep. record { when = group.when; dep = dep } in
    let more = in_groups (drop (c.loop-group.group-index + 1) items) in
    ap (λ l. l ++ flat_map targets more) (c.in_ok-push_group.ensures ∙ ap (λ l. c.loop-group.found ++ l) (sym (flat_map-map targets here group.deps)))
    ∙ append_assoc c.loop-group.found (flat_map targets (of_group group)) (flat_map targets more)
    ∙ ap (λ l. c.loop-group.found ++ l) (sym (flat_map-append targets (of_group group) more))
    ∙ ap (λ l. c.loop-group.found ++ flat_map targets (in_groups l)) (sym (drop_at items c.loop-group.group-index group c.loop-group-test.true c.group-item.is))
    ∙ c.loop-group.invariant
