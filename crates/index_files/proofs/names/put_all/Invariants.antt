-- the names so far
use Rattle.std.proofs.Common.{◌≡◌, take}
use Rattle.index_files.specs.Names.{put_all}
use Rattle.index_files.proofs.names.put_all.Given as goal

abbrev pub invariant-loop-other : goal.invariant-loop-other
invariant-loop-other l = l.names.keys ≡ put_all l.fn.names.keys (take l.other-index l.others)
