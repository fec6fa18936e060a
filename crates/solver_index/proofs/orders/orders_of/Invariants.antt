-- the orders so far
use Rattle.std.proofs.Common.{[]}
use Rattle.solver_index.specs.Orders.{IsTable}
use Rattle.solver_index.specs.Orders.{IsOrderOf}
use Rattle.plan_types.specs.Packages.{package_at}
use Rattle.solver_index.proofs.orders.orders_of.Given as goal

abbrev pub invariant-loop-found : goal.invariant-loop-found
invariant-loop-found l = IsTable l.found-index (λ p values. IsOrderOf l.project (package_at l.packages p) values) [] l.orders
