use Rattle.std.proofs.Common.{◌∙◌, sym}
use Rattle.depend_text.specs.Depends.{named, old, broken}
use Rattle.entry_text.proofs.FoundEntries.{ok_so, fault_so}
use Rattle.depend_text.proofs.part.libraries.Goals as goal

pub returns-then-is_old-clause-fault : goal.returns-then-is_old-clause-fault
returns-then-is_old-clause-fault c = old c.in-Some.part.now (sym c.is_old.ensures ∙ c.if-is_old.true) c.in-Some.ensures.some c.old_cause.ensures

pub returns-clause-found : goal.returns-clause-found
returns-clause-found c =
    ok_so _ _ c.named_libraries.result (λ p is. named c.in-Some.part.now (sym c.is_old.ensures ∙ c.if-is_old.false) c.in-Some.ensures.some is) c.named_libraries.ensures.found

pub returns-clause-fault : goal.returns-clause-fault
returns-clause-fault c =
    fault_so _ _ c.named_libraries.result
    (λ cause no. broken c.in-Some.part.now (sym c.is_old.ensures ∙ c.if-is_old.false) c.in-Some.ensures.some no.0 no.1) c.named_libraries.ensures.fault
