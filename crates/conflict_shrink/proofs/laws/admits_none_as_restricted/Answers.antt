-- a set admits none where the problem of its variables has no plan
use Rattle.conflict_shrink.proofs.Restricts.{admits-by-part}
use Rattle.conflict_shrink.proofs.laws.admits_none_as_restricted.Goals as goal

pub returns : goal.returns
returns c p set lawful are = admits-by-part p set lawful are
