-- the ranges so far
use Rattle.std.proofs.Common.{◌≡◌, take}
use Rattle.keyed_lists.specs.Lists.{items_at}
use Rattle.plan_types.specs.Bytes.{same_text}
use Rattle.qualified_goals.specs.Names.{Name}
use Rattle.solver_index.specs.Orders.{ranges_for}
use Rattle.solver_index.proofs.preferred.ranges_by_name.Given as goal

abbrev pub invariant-loop-named : goal.invariant-loop-named
invariant-loop-named l = (name : Name) → items_at same_text l.ranges name ≡ ranges_for name (take l.named-index l.all)
