-- the needs so far, and those of the later components
use Rattle.std.proofs.Common.{◌≡◌, ◌++◌, drop}
use Rattle.plan_components.specs.Needs.{wanted_needs}
use Rattle.plan_components.specs.Chosen.{selection_of}
use Rattle.plan_components.proofs.needs.push_wanted.Given as goal

abbrev pub invariant-loop-component : goal.invariant-loop-component
invariant-loop-component l =
    l.needs ++ wanted_needs (selection_of l.chosen) l.owner.node l.owner.known.now.flags (drop l.component-index l.components)
    ≡ l.fn.needs ++ wanted_needs (selection_of l.chosen) l.owner.node l.owner.known.now.flags l.components
