use Rattle.std.proofs.Common.{◌≡◌, [], take}
use Rattle.std.specs.Prelude.{fold}
use Rattle.older_fields.specs.Names.{put}
use Rattle.older_fields.proofs.names.set_of.Given as goal

abbrev pub invariant-loop-name : goal.invariant-loop-name
invariant-loop-name l = l.set.keys ≡ fold put [] (take l.name-index l.names)
