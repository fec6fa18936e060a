-- the needs so far, and those of the later dependencies
use Rattle.std.proofs.Common.{◌≡◌, ◌++◌, drop, flat_map}
use Rattle.std.specs.Prelude.{filter}
use Rattle.plan_components.specs.Needs.{dep_needs, is_asked}
use Rattle.plan_components.specs.Chosen.{selection_of}
use Rattle.plan_components.proofs.needs.push_asked.Given as goal

abbrev pub invariant-loop-dep : goal.invariant-loop-dep
invariant-loop-dep l =
    let of_one = dep_needs (selection_of l.chosen) l.owner.node in
    l.needs ++ flat_map of_one (filter (is_asked l.own) (drop l.dep-index l.deps)) ≡ l.fn.needs ++ flat_map of_one (filter (is_asked l.own) l.deps)
