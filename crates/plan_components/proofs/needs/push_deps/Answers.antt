use Rattle.std.proofs.Common.{◌+◌, ◌++◌, append_assoc, drop, List, sym, ap, ◌∙◌}
use Rattle.common_laws.specs.Lists.{drop_at}
use Rattle.plan_types.specs.Guarded.{GuardedDep, in_groups, of_group}
use Rattle.plan_components.specs.Chosen.{selection_of}
use Rattle.plan_components.specs.Needs.{needs_among}
use Rattle.plan_components.specs.declared.node.Need.{Need}
use Rattle.plan_components.proofs.Conditions.{among-append}
use Rattle.plan_components.proofs.needs.push_deps.Goals as goal

pub loop-group-preserved : goal.loop-group-preserved
loop-group-preserved c =
    let selection = selection_of c.args.chosen.now in
    let node = c.args.owner.now.node in
    let flags = c.args.owner.now.known.now.flags in
    let items = c.groups-group-items.result.now in
    let group = c.group-item.result in
    let among : List GuardedDep → List Need = needs_among selection node flags c.args.dependent.now.own c.args.dependent.now.component.now in
    let more = in_groups (drop (c.loop-group.group-index + 1) items) in
    ap (λ l. l ++ among more) c.in_ok-push_group.ensures
    ∙ append_assoc c.loop-group.needs (among (of_group group)) (among more)
    ∙ ap (λ l. c.loop-group.needs ++ l) (sym (among-append selection flags c.args.dependent.now.own c.args.dependent.now.component.now node (of_group group) more))
    ∙ ap (λ l. c.loop-group.needs ++ among (in_groups l)) (sym (drop_at items c.loop-group.group-index group c.loop-group-test.true c.group-item.is))
    ∙ c.loop-group.invariant
