use Rattle.std.proofs.Common.{Err, ap, ◌∙◌, sym}
use Rattle.std.proofs.lemmas.Result.{err_from_is_err_and}
use Rattle.entry_text.proofs.FoundEntries.{err_so, refuses_so}
use Rattle.depend_text.proofs.Fits.{bad_libraries, bad_range, library_entry}
use Rattle.depend_text.proofs.depends.PackagesEntryKind.read.Goals as goal

pub returns-in_err-libs-clause-fault : goal.returns-in_err-libs-clause-fault
returns-in_err-libs-clause-fault c =
    let p = err_from_is_err_and c.from_residual.result c.from_residual.ensures.1 in
    let bad = bad_libraries c.args.self.now.spec c.args.part.now _ _ c.name_at.ensures.name c.name_at.ensures.rest (sym c.is_package_name.ensures ∙ c.if-not-is_package_name.false) in
    err_so _ c.from_residual.result c.in_err-libs.field-0.0 (p.1 ∙ ap Err p.2) (refuses_so c.in_err-libs.field-0.0 bad c.in_err-libs.ensures.fault)

pub returns-in_err-range-clause-fault : goal.returns-in_err-range-clause-fault
returns-in_err-range-clause-fault c =
    let p = err_from_is_err_and c.from_residual-in_err-range.result c.from_residual-in_err-range.ensures.1 in
    let bad = bad_range c.args.self.now.spec c.args.part.now _ _ c.name_at.ensures.name c.name_at.ensures.rest (sym c.is_package_name.ensures ∙ c.if-not-is_package_name.false)
    c.in_ok-libs.libs c.in_ok-libs.range_text.now c.in_ok-libs.ensures.found in
    err_so _ c.from_residual-in_err-range.result c.in_err-range.field-0.0 (p.1 ∙ ap Err p.2) (refuses_so c.in_err-range.field-0.0 bad c.in_err-range.ensures.fault)

pub returns-clause-found : goal.returns-clause-found
returns-clause-found c =
    library_entry c.args.self.now.spec c.args.part.now _ _ c.name_at.ensures.name c.name_at.ensures.rest (sym c.is_package_name.ensures ∙ c.if-not-is_package_name.false)
    c.args.self.now.kind c.args.self.now.line c.in_ok-libs.libs c.in_ok-libs.range_text.now c.in_ok-range.range c.in_ok-package.package c.new.result
    c.in_ok-libs.ensures.found c.in_ok-range.ensures.range c.in_ok-package.ensures c.new.ensures
