-- the needs so far
use Rattle.std.proofs.Common.{◌≡◌, ◌++◌, flat_map, take}
use Rattle.plan_components.specs.Needs.{dep_needs}
use Rattle.plan_components.specs.Chosen.{selection_of}
use Rattle.plan_components.proofs.needs.push_setup.Given as goal

abbrev pub invariant-loop-dep : goal.invariant-loop-dep
invariant-loop-dep l = l.needs ≡ l.fn.needs ++ flat_map (dep_needs (selection_of l.chosen) l.owner.node) (take l.dep-index l.deps)
