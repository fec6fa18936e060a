use Rattle.std.proofs.Common.{◌≡◌, length}
use Rattle.std.specs.List.{All}
use Rattle.plan_types.specs.declared.condition.Cond.{size-Cond}
use Rattle.conditionals.specs.Steps.{lists_of, finish, IsSmaller}
use Rattle.conditionals.proofs.path.+build.Given as goal

abbrev pub decreases-build : goal.decreases-build
decreases-build l = size-Cond l.cond.now

-- the lists so far and the pending steps make those of the whole
abbrev pub invariant-loop-step : goal.invariant-loop-step
invariant-loop-step l = record {
  lists : finish l.env l.steps.items l.lists ≡ lists_of l.env l.cond l.fn.need;
  smaller : All (IsSmaller l.cond) l.steps.items;
}

abbrev pub decreases-loop-step : goal.decreases-loop-step
decreases-loop-step l = length l.steps.items
