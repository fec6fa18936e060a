use Rattle.std.proofs.Common.{refl}
use Rattle.constraint_text.specs.Constraints.{range, other}
use Rattle.constraint_text.proofs.Project.{no_range}
use Rattle.constraint_text.proofs.OneConstraint.{never_asks}
use Rattle.entry_text.proofs.FoundEntries.{ok_so, fault_so}
use Rattle.constraint_text.proofs.constraints.what.Goals as goal

pub returns-in-Ok-clause-found : goal.returns-in-Ok-clause-found
returns-in-Ok-clause-found c = range c.in-Ok.range c.in-Ok.ensures.range refl

pub returns-in-Err-Bad-clause-found : goal.returns-in-Err-Bad-clause-found
returns-in-Err-Bad-clause-found c =
    ok_so _ _ c.word_or_flags.result (λ w a. other (no_range c.args.text.now _ (rw c.in-Err-Bad.field-0-is at c.in-Err-Bad.ensures.fault)) a) c.word_or_flags.ensures.found

pub returns-in-Err-Bad-clause-fault : goal.returns-in-Err-Bad-clause-fault
returns-in-Err-Bad-clause-fault c =
    fault_so _ _ c.word_or_flags.result
    (λ cause never. record { is = never.0; stands_for_none = never_asks c.args.text.now (no_range c.args.text.now _ (rw c.in-Err-Bad.field-0-is at c.in-Err-Bad.ensures.fault)) never.1 })
    c.word_or_flags.ensures.fault
