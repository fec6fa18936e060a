use Rattle.std.proofs.Common.{sym, subst, ◌∙◌}
use Rattle.std.specs.Str.{IsAscii}
use Rattle.older_fields.proofs.NameBytes.{plain_bytes-ascii}
use Rattle.older_fields.proofs.names.plain_name.Goals as goal

pub from_ascii-requires : goal.from_ascii-requires
from_ascii-requires c = subst IsAscii (sym (c.as_slice.ensures.value ∙ c.in_ok-bytes.ensures)) (plain_bytes-ascii c.args.name.now)
