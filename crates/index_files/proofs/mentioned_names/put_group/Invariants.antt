-- the package names of the dependencies so far
use Rattle.std.proofs.Common.{◌≡◌, take, flat_map}
use Rattle.index_files.proofs.Groups.{asked_name}
use Rattle.index_files.specs.Names.{put_all}
use Rattle.index_files.proofs.mentioned_names.put_group.Given as goal

abbrev pub invariant-loop-dep : goal.invariant-loop-dep
invariant-loop-dep l = l.names.keys ≡ put_all l.fn.names.keys (flat_map asked_name (take l.dep-index l.dep-items))
