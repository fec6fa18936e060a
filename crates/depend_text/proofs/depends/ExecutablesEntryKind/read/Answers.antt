use Rattle.std.proofs.Common.{Err, ap, ◌∙◌, sym}
use Rattle.std.proofs.lemmas.Result.{err_from_is_err_and}
use Rattle.entry_text.proofs.FoundEntries.{err_so, refuses_so}
use Rattle.depend_text.proofs.Fits.{bad_executable, bad_tool_range}
use Rattle.depend_text.proofs.depends.ExecutablesEntryKind.read.Goals as goal

pub returns-in_err-exe-clause-fault : goal.returns-in_err-exe-clause-fault
returns-in_err-exe-clause-fault c =
    let p = err_from_is_err_and c.from_residual.result c.from_residual.ensures.1 in
    let bad = bad_executable c.args.self.now.spec c.args.part.now _ _ c.name_at.ensures.name c.name_at.ensures.rest (sym c.is_package_name.ensures ∙ c.if-not-is_package_name.false) in
    err_so _ c.from_residual.result c.in_err-exe.field-0.0 (p.1 ∙ ap Err p.2) (refuses_so c.in_err-exe.field-0.0 bad c.in_err-exe.ensures.fault)

pub returns-in_err-range-clause-fault : goal.returns-in_err-range-clause-fault
returns-in_err-range-clause-fault c =
    let p = err_from_is_err_and c.from_residual-in_err-range.result c.from_residual-in_err-range.ensures.1 in
    let bad = bad_tool_range c.args.self.now.spec c.args.part.now _ _ c.name_at.ensures.name c.name_at.ensures.rest (sym c.is_package_name.ensures ∙ c.if-not-is_package_name.false)
    c.in_ok-exe.exe c.in_ok-exe.range_text.now c.in_ok-exe.ensures.found in
    err_so _ c.from_residual-in_err-range.result c.in_err-range.field-0.0 (p.1 ∙ ap Err p.2) (refuses_so c.in_err-range.field-0.0 bad c.in_err-range.ensures.fault)
