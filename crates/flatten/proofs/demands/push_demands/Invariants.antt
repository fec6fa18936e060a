use Rattle.std.proofs.Common.{◌≡◌, ◌++◌, map}
use Rattle.std.specs.Vec.Iter.{into_iter_items}
use Rattle.flatten.specs.Demands.{flat_of}
use Rattle.flatten.specs.Ways.{paths_of_both}
use Rattle.flatten.proofs.demands.push_demands.Given as goal

abbrev pub invariant-loop-path : goal.invariant-loop-path
invariant-loop-path l = l.flat ++ map (flat_of l.kind l.dep) (into_iter_items l.path-iterator) ≡ l.fn.flat ++ map (flat_of l.kind l.dep) (paths_of_both l.ways l.met)
