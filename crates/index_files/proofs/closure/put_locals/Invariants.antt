-- the names of the packages so far
use Rattle.std.proofs.Common.{◌≡◌, take}
use Rattle.index_files.specs.Locals.{local_names}
use Rattle.index_files.specs.Names.{put_all}
use Rattle.index_files.proofs.closure.put_locals.Given as goal

abbrev pub invariant-loop-local : goal.invariant-loop-local
invariant-loop-local l = l.names.keys ≡ put_all l.fn.names.keys (local_names (take l.local-index l.locals))
