use Rattle.every_plan.proofs.Findings as proof
use Rattle.every_plan.proofs.search_laws.some_finding.Goals as goal

pub returns : goal.returns
returns c = proof.some_finding
