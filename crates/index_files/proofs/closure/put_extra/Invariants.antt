-- the names so far
use Rattle.std.proofs.Common.{◌≡◌, map, take}
use Rattle.plan_types.specs.declared.dependency.Named.{Named}
use Rattle.index_files.specs.Names.{put_all}
use Rattle.index_files.proofs.closure.put_extra.Given as goal

abbrev pub invariant-loop-named : goal.invariant-loop-named
invariant-loop-named l = l.names.keys ≡ put_all l.fn.names.keys (map (λ (named : Named). named.name) (take l.named-index l.extra))
