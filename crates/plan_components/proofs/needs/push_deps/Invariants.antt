-- the needs so far, and those of the later groups
use Rattle.std.proofs.Common.{◌≡◌, ◌++◌, drop}
use Rattle.plan_types.specs.Guarded.{in_groups}
use Rattle.plan_components.specs.Needs.{component_needs, needs_among}
use Rattle.plan_components.specs.Chosen.{selection_of}
use Rattle.plan_components.proofs.needs.push_deps.Given as goal

abbrev pub invariant-loop-group : goal.invariant-loop-group
invariant-loop-group l =
    let selection = selection_of l.chosen in
    let flags = l.owner.known.now.flags in
    l.needs ++ needs_among selection l.owner.node flags l.dependent.own l.dependent.component.now (in_groups (drop l.group-index l.group-items))
    ≡ l.fn.needs ++ component_needs selection l.owner.node flags l.dependent.own l.dependent.component.now
