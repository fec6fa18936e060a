use Rattle.std.proofs.Common.{true, false}
use Rattle.version_range.proofs.RelaxedCuts as proof
use Rattle.version_range.proofs.laws.relaxed_twice.Goals as goal

pub returns-clause-newer_first : goal.returns-clause-newer_first
returns-clause-newer_first c = proof.relaxed_twice true false false true

pub returns-clause-older_first : goal.returns-clause-older_first
returns-clause-older_first c = proof.relaxed_twice false true true false

pub returns-clause-twice : goal.returns-clause-twice
returns-clause-twice c = proof.relaxed_twice
