-- the set with which a search fails is known and admits none
use Rattle.conflict_shrink.proofs.Known.{no-plan-can}
use Rattle.conflict_shrink.proofs.laws.failed_sets_can_be_shrunk.Goals as goal

pub returns : goal.returns
returns c p guide limit set counts lawful is h = no-plan-can p lawful guide is limit set counts h
