use Rattle.std.proofs.Common.{refl}
use Rattle.impossible_conditions.proofs.known.Facts.unknown.Goals as goal

pub returns : goal.returns
returns c flags = record { known_impossible = refl; required = c.new.ensures flags }
