use Rattle.std.proofs.Common.{Err, ap, ◌∙◌, sym}
use Rattle.std.proofs.lemmas.Result.{err_from_is_err_and}
use Rattle.entry_text.proofs.FoundEntries.{err_so, refuses_so}
use Rattle.constraint_text.proofs.Project.{bad_named, named_entry}
use Rattle.constraint_text.proofs.named.NamedRowEntryKind.read.Goals as goal

pub returns-in_err-range-clause-fault : goal.returns-in_err-range-clause-fault
returns-in_err-range-clause-fault c =
    let p = err_from_is_err_and c.from_residual.result c.from_residual.ensures.1 in
    err_so _ c.from_residual.result c.in_err-range.field-0.0 (p.1 ∙ ap Err p.2)
    (refuses_so c.in_err-range.field-0.0 (bad_named c.args.part.now _ _ c.name_at.ensures.name c.name_at.ensures.rest) c.in_err-range.ensures.fault)

pub returns-clause-found : goal.returns-clause-found
returns-clause-found c =
    named_entry c.args.part.now _ _ c.name_at.ensures.name c.name_at.ensures.rest (sym c.is_package_name.ensures ∙ c.if-not-is_package_name.false) _ c.in_ok-name.ensures c.in_ok-range.ensures.found
