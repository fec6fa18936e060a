use Rattle.std.proofs.Common.{◌≡◌, ◌++◌, take}
use Rattle.component_cycle.proofs.search.push_all.Given as goal

abbrev pub invariant-loop-item : goal.invariant-loop-item
invariant-loop-item l = l.list ≡ l.initial.list ++ take l.item-index l.more
