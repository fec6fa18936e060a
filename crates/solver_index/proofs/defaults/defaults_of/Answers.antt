use Rattle.std.proofs.Common.{◌≡◌, List, length, ap, ◌∙◌, subst, arith}
use Rattle.std.proofs.lemmas.List.{get_or_read}
use Rattle.plan_types.specs.declared.index.Entry.{Entry}
use Rattle.plan_types.specs.declared.index.Package.{Package}
use Rattle.plan_types.specs.Packages.{entries_of, no_package}
use Rattle.solver_index.specs.Defaults.{AreDefaultsIn}
use Rattle.solver_index.specs.Rows.{AreRows}
use Rattle.solver_index.proofs.RowLaws.{rows_pushed}
use Rattle.solver_index.proofs.defaults.defaults_of.Goals as goal

pub loop-found-preserved : goal.loop-found-preserved
loop-found-preserved c =
    let n = c.loop-found.found-index in
    let packages = c.args.packages.now in
    let here = get_or_read packages n c.found-item.result c.loop-found-test.true c.found-item.is no_package in
    rows_pushed n (λ p. AreDefaultsIn (entries_of packages p) c.args.names.now) c.loop-found.rows c.push.new.self c.in_ok-defaults_in.field-0 c.in_ok-push.ensures.ok c.loop-found.invariant
    (subst (λ (entries : List Entry). AreDefaultsIn entries c.args.names.now c.in_ok-defaults_in.field-0) (c.as_slice.ensures ∙ ap (λ (p : Package). p.entries) here) c.in_ok-defaults_in.ensures)

pub returns : goal.returns
returns c =
    let same : c.loop-found.found-index ≡ length c.args.packages.now = omega (arith, c.loop-found-test.false, c.loop-found.auto.found-index-end) in
    subst (λ n. AreRows n (λ p. AreDefaultsIn (entries_of c.args.packages.now p) c.args.names.now) c.loop-found.rows) same c.loop-found.invariant
