use Rattle.std.proofs.Common.{◌≡◌, ◌++◌, map}
use Rattle.std.specs.Vec.Iter.{into_iter_items}
use Rattle.flatten.specs.Demands.{literal_of}
use Rattle.flatten.proofs.demands.push_settings.Given as goal

abbrev pub invariant-loop-setting : goal.invariant-loop-setting
invariant-loop-setting l = l.when ++ map literal_of (into_iter_items l.setting-iterator) ≡ l.fn.when ++ map literal_of l.fn.path
