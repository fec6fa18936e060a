-- the package names of the groups so far
use Rattle.std.proofs.Common.{◌≡◌, take, flat_map}
use Rattle.index_files.proofs.Groups.{group_names}
use Rattle.index_files.specs.Names.{put_all}
use Rattle.index_files.proofs.mentioned_names.put_component.Given as goal

abbrev pub invariant-loop-group : goal.invariant-loop-group
invariant-loop-group l = l.names.keys ≡ put_all l.fn.names.keys (flat_map (group_names l.component) (take l.group-index l.group-items))
