use Rattle.std.proofs.Common.{◌≡◌, ℕ, List, length, [], subst, arith}
use Rattle.std.proofs.lemmas.List.{get_or_read}
use Rattle.plan_types.specs.declared.index.Package.{Package}
use Rattle.solver_index.specs.Orders.{IsOrderOf}
use Rattle.solver_index.specs.Orders.{IsTable}
use Rattle.solver_index.proofs.Made.{row_pushed}
use Rattle.plan_types.specs.Packages.{package_at, no_package}
use Rattle.solver_index.proofs.orders.orders_of.Goals as goal

pub loop-found-preserved : goal.loop-found-preserved
loop-found-preserved c =
    let n = c.loop-found.found-index in
    let here = get_or_read c.args.packages.now n c.found-item.result c.loop-found-test.true c.found-item.is no_package in
    row_pushed n (λ (k : ℕ) (row : List ℕ). IsOrderOf c.args.project.now (package_at c.args.packages.now k) row) [] c.loop-found.orders c.push.new.self c.in_ok-instance_order.field-0 c.in_ok-push.ensures.ok (c.loop-found.invariant)
    (subst (λ (item : Package). IsOrderOf c.args.project.now item c.in_ok-instance_order.field-0) here (c.in_ok-instance_order.ensures))

pub returns : goal.returns
returns c =
    let same : c.loop-found.found-index ≡ length c.args.packages.now = omega (arith, c.loop-found-test.false, c.loop-found.auto.found-index-end) in
    subst (λ n. IsTable n (λ (k : ℕ) (row : List ℕ). IsOrderOf c.args.project.now (package_at c.args.packages.now k) row) [] c.loop-found.orders) same (c.loop-found.invariant)
