use Rattle.every_plan.proofs.Findings as proof
use Rattle.every_plan.proofs.search_laws.first_or_none.Goals as goal

pub returns : goal.returns
returns c = proof.first_or_none c.what_is_found_is_right.ensures
