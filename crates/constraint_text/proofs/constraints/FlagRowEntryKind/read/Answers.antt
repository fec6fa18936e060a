use Rattle.constraint_text.specs.Constraints.{on, off}
use Rattle.entry_text.proofs.FoundEntries.{ok_so}
use Rattle.constraint_text.proofs.constraints.FlagRowEntryKind.read.Goals as goal

pub returns-in-Some-clause-found : goal.returns-in-Some-clause-found
returns-in-Some-clause-found c = ok_so _ _ c.flag.result (λ set is. on c.in-Some.name.now c.in-Some.ensures.some is.0 is.1) c.flag.ensures.found

pub returns-in-Some-byte_after-clause-found : goal.returns-in-Some-byte_after-clause-found
returns-in-Some-byte_after-clause-found c =
    ok_so _ _ c.flag-in-Some-byte_after.result (λ set is. off c.in-Some-byte_after.name.now c.in-Some-byte_after.ensures.some is.0 is.1) c.flag-in-Some-byte_after.ensures.found
