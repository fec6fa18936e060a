use Rattle.std.proofs.Common.{ap, ◌∙◌, sym}
use Rattle.entry_text.proofs.CommaCuts.{texts}
use Rattle.entry_text.proofs.FoundEntries.{ok_so, fault_so}
use Rattle.constraint_text.proofs.relax.RelaxRowEntryKind.read.Goals as goal

pub returns-clause-found : goal.returns-clause-found
returns-clause-found c =
    ok_so _ _ c.relaxed.result (λ x r. record { word = r.0; alone = sym (ap texts c.as_slice.ensures.value ∙ c.in_ok-words.ensures) ∙ r.1; relaxed = r.2 }) c.relaxed.ensures.found

pub returns-clause-fault : goal.returns-clause-fault
returns-clause-fault c =
    fault_so _ _ c.relaxed.result
    (λ cause never. record { is = never.0; stands_for_none = λ x e. never.1 e.word x (ap texts c.as_slice.ensures.value ∙ c.in_ok-words.ensures ∙ e.alone) e.relaxed })
    c.relaxed.ensures.fault
