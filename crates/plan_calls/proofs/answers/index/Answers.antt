use Rattle.std.proofs.Common.{[], sym, subst}
use Rattle.std.specs.List.{IsDistinct}
use Rattle.std.specs.List.Sorted.{IsStrictlySortedBy}
use Rattle.qualified_goals.specs.Names.{AreInGoalOrder}
use Rattle.plan_calls.proofs.answers.index.Goals as goal

none : AreInGoalOrder []
unfolding IsStrictlySortedBy IsDistinct
none = record { rising = tt; once = tt }

pub returns : goal.returns
returns c = subst AreInGoalOrder (sym c.new-packages.ensures) none
