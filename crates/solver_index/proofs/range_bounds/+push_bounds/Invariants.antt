-- membership in the range is constant where it is so in the rest
use Rattle.std.proofs.Common.{◌≡◌, ◌≤◌, true}
use Rattle.plan_types.specs.Members.{members}
use Rattle.plan_types.specs.declared.range.Range.{size-Range}
use Rattle.version_range.specs.Version.{has_versions}
use Rattle.solver_index.specs.RangeBounds.{AreBoundsBut}
use Rattle.solver_index.proofs.range_bounds.+push_bounds.Given as goal

abbrev pub invariant-loop-left : goal.invariant-loop-left
invariant-loop-left l = record {
  bounded : AreBoundsBut (members l.range) (members l.rest) l.entries l.from l.to l.fn.bounds l.bounds;
  versions : has_versions l.rest ≡ true;
  size : size-Range l.rest ≤ size-Range l.range;
}
