use Rattle.std.proofs.Common.{Err, ap, ◌∙◌, sym, refl}
use Rattle.std.proofs.lemmas.Result.{err_from_is_err_and}
use Rattle.constraint_text.specs.Relaxes.{RelaxedBy}
use Rattle.entry_text.proofs.FoundEntries.{err_so, refuses_so}
use Rattle.constraint_text.proofs.OneRelax.{bad_relaxed}
use Rattle.constraint_text.proofs.relax.relaxed_by.Goals as goal

pub returns-in_err-relax-in-None-clause-fault : goal.returns-in_err-relax-in-None-clause-fault
returns-in_err-relax-in-None-clause-fault c =
    let p = err_from_is_err_and c.from_residual.result c.from_residual.ensures.1 in
    err_so _ c.from_residual.result c.in_err-relax-in-None.field-0.0 (p.1 ∙ ap Err p.2)
    (refuses_so c.in_err-relax-in-None.field-0.0 (bad_relaxed c.args.word.now (sym c.in-None.ensures)) c.in_err-relax-in-None.ensures.fault)

pub returns-in_ok-relax-in-None-clause-found : goal.returns-in_ok-relax-in-None-clause-found
returns-in_ok-relax-in-None-clause-found c = RelaxedBy.one c.in_ok-relax-in-None.relax (sym c.in-None.ensures) c.in_ok-relax-in-None.ensures.found refl
