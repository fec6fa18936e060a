-- the needs so far
use Rattle.std.proofs.Common.{◌≡◌, map, take}
use Rattle.plan_components.specs.Needs.{unit_need}
use Rattle.plan_components.specs.Chosen.{selection_of}
use Rattle.plan_components.proofs.needs.unit_needs.Given as goal

abbrev pub invariant-loop-name : goal.invariant-loop-name
invariant-loop-name l = l.needs ≡ map (unit_need (selection_of l.chosen) l.node) (take l.name-index l.names)
