use Rattle.std.proofs.Common.{Err, ap, ◌∙◌}
use Rattle.std.proofs.lemmas.Result.{err_from_is_err_and}
use Rattle.entry_text.proofs.FoundEntries.{err_so, refuses_so}
use Rattle.constraint_text.proofs.relax.one_of.Goals as goal

pub returns-in_err-owner-clause-fault : goal.returns-in_err-owner-clause-fault
returns-in_err-owner-clause-fault c =
    let p = err_from_is_err_and c.from_residual.result c.from_residual.ensures.1 in
    err_so _ c.from_residual.result c.in_err-owner.field-0.0 (p.1 ∙ ap Err p.2)
    (refuses_so c.in_err-owner.field-0.0 (λ cause fault. (fault.is, λ owner o h. fault.stands_for_none owner o)) c.in_err-owner.ensures.fault)
