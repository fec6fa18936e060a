use Rattle.std.proofs.Common.{◌≡◌, length, subst, arith}
use Rattle.std.proofs.lemmas.List.{get_or_read}
use Rattle.plan_types.specs.declared.index.Package.{Package}
use Rattle.solver_index.specs.Units.{AreUnits, AreUnitsOf}
use Rattle.solver_index.proofs.RowLaws.{rows_pushed}
use Rattle.plan_types.specs.Packages.{no_package, package_at}
use Rattle.solver_index.proofs.units.units_of.Goals as goal

pub loop-found-preserved : goal.loop-found-preserved
loop-found-preserved c =
    let n = c.loop-found.found-index in
    let packages = c.args.packages.now in
    let here = get_or_read packages n c.found-item.result c.loop-found-test.true c.found-item.is no_package in
    rows_pushed n (λ p. AreUnitsOf (package_at packages p)) c.loop-found.units c.push.new.self c.in_ok-units_in.field-0 c.in_ok-push.ensures.ok c.loop-found.invariant
    (subst (λ (p : Package). AreUnitsOf p c.in_ok-units_in.field-0) here c.in_ok-units_in.ensures)

pub returns : goal.returns
returns c =
    let same : c.loop-found.found-index ≡ length c.args.packages.now = omega (arith, c.loop-found-test.false, c.loop-found.auto.found-index-end) in
    subst (λ n. AreUnits c.args.packages.now n c.loop-found.units) same c.loop-found.invariant
