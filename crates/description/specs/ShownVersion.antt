-- The version behind a reference.
use Rattle.std.specs.Prelude.{Option, None, Some}
use Rattle.std.specs.Borrow.{Bor}
use Rattle.plan_types.specs.declared.version.Version.{Version}

-- the version behind an optional reference
abbrev pub shown_version : Option (Bor Version) → Option Version
shown_version None = None
shown_version (Some version) = Some version.now
