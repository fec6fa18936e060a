-- the names of the releases so far
use Rattle.std.proofs.Common.{◌≡◌, take}
use Rattle.index_files.specs.Releases.{asked_in}
use Rattle.index_files.specs.Names.{put_all}
use Rattle.index_files.proofs.mentioned_names.put_asked.Given as goal

abbrev pub invariant-loop-release : goal.invariant-loop-release
invariant-loop-release l = l.names.keys ≡ put_all l.fn.names.keys (asked_in (take l.release-index l.releases))
