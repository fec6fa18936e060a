use Rattle.std.proofs.Common.{◌≡◌, ◌++◌}
use Rattle.std.specs.Vec.Iter.{into_iter_items}
use Rattle.conditionals.specs.Paths.{clean_paths}
use Rattle.conditionals.proofs.clean.clean.Given as goal

abbrev pub invariant-loop-path : goal.invariant-loop-path
invariant-loop-path l = l.kept ++ clean_paths (into_iter_items l.path-iterator) ≡ clean_paths l.fn.paths
