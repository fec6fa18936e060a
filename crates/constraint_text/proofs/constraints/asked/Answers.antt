use Rattle.std.proofs.Common.{Err, ap, ◌∙◌, sym, refl}
use Rattle.std.proofs.lemmas.Result.{err_from_is_err_and}
use Rattle.constraint_text.specs.Constraints.{flags}
use Rattle.entry_text.proofs.CommaCuts.{texts}
use Rattle.entry_text.proofs.FoundEntries.{err_so, refuses_so}
use Rattle.constraint_text.proofs.OneConstraint.{bad_asked}
use Rattle.constraint_text.proofs.constraints.asked.Goals as goal

pub returns-in_err-flags-in-None-clause-fault : goal.returns-in_err-flags-in-None-clause-fault
returns-in_err-flags-in-None-clause-fault c =
    let p = err_from_is_err_and c.from_residual.result c.from_residual.ensures.1 in
    err_so _ c.from_residual.result c.in_err-flags-in-None.field-0.0 (p.1 ∙ ap Err p.2)
    (refuses_so c.in_err-flags-in-None.field-0.0 (bad_asked (texts c.args.words.now) (sym c.in-None.ensures)) c.in_err-flags-in-None.ensures.fault)

pub returns-in_ok-flags-in-None-clause-found : goal.returns-in_ok-flags-in-None-clause-found
returns-in_ok-flags-in-None-clause-found c = flags c.in_ok-flags-in-None.flags c.in_ok-flags-in-None.ensures.found refl
