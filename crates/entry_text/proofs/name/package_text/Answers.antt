use Rattle.entry_text.proofs.Ascii.{package_ascii}
use Rattle.entry_text.proofs.name.package_text.Goals as goal

pub from_ascii-requires : goal.from_ascii-requires
from_ascii-requires c = package_ascii c.args.name.now c.requires
