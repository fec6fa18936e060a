use Rattle.std.proofs.Common.{Err, ap, ◌∙◌, sym, refl, inl, inr}
use Rattle.std.proofs.lemmas.Result.{err_from_is_err_and}
use Rattle.entry_text.proofs.FoundEntries.{err_so, refuses_so}
use Rattle.constraint_text.proofs.OneRelax.{bad_release}
use Rattle.constraint_text.proofs.relax.release.Goals as goal

pub returns-then-not-is_package_name-clause-fault : goal.returns-then-not-is_package_name-clause-fault
returns-then-not-is_package_name-clause-fault c =
    (refl, bad_release c.args.text.now _ _ c.in-Some.ensures.some.0 c.in-Some.ensures.some.1 (inl (sym c.is_package_name.ensures ∙ c.if-not-is_package_name.true)))

pub returns-in_err-version-clause-fault : goal.returns-in_err-version-clause-fault
returns-in_err-version-clause-fault c =
    let p = err_from_is_err_and c.from_residual.result c.from_residual.ensures.1 in
    err_so _ c.from_residual.result c.in_err-version.field-0.0 (p.1 ∙ ap Err p.2)
    (refuses_so c.in_err-version.field-0.0 (λ cause never. (never.0, bad_release c.args.text.now _ _ c.in-Some.ensures.some.0 c.in-Some.ensures.some.1 (inr never.1))) c.in_err-version.ensures.fault)
