use Rattle.std.proofs.Common.{Err, ap, ◌∙◌, sym}
use Rattle.std.proofs.lemmas.Result.{err_from_is_err_and}
use Rattle.entry_text.proofs.FoundEntries.{err_so, refuses_so}
use Rattle.constraint_text.proofs.OneConstraint.{bad_target, bad_what, constraint_entry}
use Rattle.constraint_text.proofs.constraints.ConstraintRowEntryKind.read.Goals as goal

pub returns-in_err-scope-clause-fault : goal.returns-in_err-scope-clause-fault
returns-in_err-scope-clause-fault c =
    let p = err_from_is_err_and c.from_residual.result c.from_residual.ensures.1 in
    err_so _ c.from_residual.result c.in_err-scope.field-0.0 (p.1 ∙ ap Err p.2)
    (refuses_so c.in_err-scope.field-0.0 (bad_target c.args.part.now) c.in_err-scope.ensures.fault)

pub returns-in_err-what-clause-fault : goal.returns-in_err-what-clause-fault
returns-in_err-what-clause-fault c =
    let p = err_from_is_err_and c.from_residual-in_err-what.result c.from_residual-in_err-what.ensures.1 in
    err_so _ c.from_residual-in_err-what.result c.in_err-what.field-0.0 (p.1 ∙ ap Err p.2)
    (refuses_so c.in_err-what.field-0.0 (bad_what c.args.part.now _ _ _ c.in_ok-scope.ensures.found) c.in_err-what.ensures.fault)

pub returns-clause-found : goal.returns-clause-found
returns-clause-found c =
    constraint_entry c.args.part.now _ _ _ c.in_ok-scope.ensures.found (sym c.is_package_name.ensures ∙ c.if-not-is_package_name.false) c.in_ok-package.ensures c.in_ok-what.ensures.found
