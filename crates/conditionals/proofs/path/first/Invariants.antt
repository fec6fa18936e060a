use Rattle.std.proofs.Common.{◌≡◌, ◌≤◌}
use Rattle.std.specs.List.{All}
use Rattle.plan_types.specs.declared.condition.Cond.{size-Cond}
use Rattle.conditionals.specs.Steps.{lists_of, finish, IsSmaller}
use Rattle.conditionals.proofs.path.first.Given as goal

-- the lists of the rest and the pending steps make those of the whole
abbrev pub invariant-loop-left : goal.invariant-loop-left
invariant-loop-left l = record {
  lists : finish l.env l.steps.items (lists_of l.env l.left l.need) ≡ lists_of l.env l.cond l.fn.need;
  inside : size-Cond l.left ≤ size-Cond l.cond;
  smaller : All (IsSmaller l.cond) l.steps.items;
}
