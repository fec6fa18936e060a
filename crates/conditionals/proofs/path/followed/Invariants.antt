use Rattle.std.proofs.Common.{◌≡◌, ◌++◌}
use Rattle.std.specs.Vec.Iter.{into_iter_items}
use Rattle.conditionals.specs.Paths.{followed}
use Rattle.conditionals.proofs.path.followed.Given as goal

abbrev pub invariant-loop-path : goal.invariant-loop-path
invariant-loop-path l = l.paths ++ followed (into_iter_items l.path-iterator) l.second ≡ followed l.fn.first l.second
