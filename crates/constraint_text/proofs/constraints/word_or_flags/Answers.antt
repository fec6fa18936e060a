use Rattle.std.proofs.Common.{ap, ◌∙◌, sym, subst}
use Rattle.constraint_text.specs.Constraints.{Required}
use Rattle.entry_text.proofs.CommaCuts.{texts}
use Rattle.entry_text.proofs.FoundEntries.{fault_so}
use Rattle.constraint_text.proofs.constraints.word_or_flags.Goals as goal

pub returns-clause-fault : goal.returns-clause-fault
returns-clause-fault c =
    fault_so _ _ c.asked.result
    (λ cause never. (never.0, λ w a. never.1 w (subst (λ parts. Required parts w) (sym (ap texts c.as_slice.ensures.value ∙ c.in_ok-words.ensures)) a)))
    c.asked.ensures.fault
