use Rattle.std.proofs.Common.{subst}
use Rattle.constraint_text.specs.Relaxes.{RelaxedBy}
use Rattle.entry_text.proofs.CommaCuts.{texts}
use Rattle.constraint_text.proofs.OneRelax.{one_text, word_same}
use Rattle.entry_text.proofs.FoundEntries.{ok_so, fault_so}
use Rattle.constraint_text.proofs.relax.relaxed.Goals as goal

pub returns-in-len1-clause-found : goal.returns-in-len1-clause-found
returns-in-len1-clause-found c =
    ok_so _ _ c.relaxed_by.result (λ x r. (_, one_text c.args.words.now _ c.in-len1.len_at_least c.in-len1.len_below, r)) c.relaxed_by.ensures.found

pub returns-in-len1-clause-fault : goal.returns-in-len1-clause-fault
returns-in-len1-clause-fault c =
    fault_so _ _ c.relaxed_by.result
    (λ cause f. (f.is, λ w x e r. f.stands_for_none x (subst (λ v. RelaxedBy v x) (word_same (texts c.args.words.now) w _ e (one_text c.args.words.now _ c.in-len1.len_at_least c.in-len1.len_below)) r)))
    c.relaxed_by.ensures.fault
