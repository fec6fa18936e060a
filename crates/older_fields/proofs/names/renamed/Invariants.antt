use Rattle.std.proofs.Common.{◌≡◌, [], take}
use Rattle.std.specs.Prelude.{fold}
use Rattle.older_fields.specs.Names.{put, so_far, with_name}
use Rattle.older_fields.proofs.names.renamed.Given as goal

-- the names so far
abbrev pub invariant-loop-name : goal.invariant-loop-name
invariant-loop-name l = so_far l.taken.keys l.found.entries ≡ fold with_name (so_far (fold put [] l.names) []) (take l.name-index l.names)
