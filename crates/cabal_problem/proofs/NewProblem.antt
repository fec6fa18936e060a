-- The tables of a sound index pass the test for lawfulness.
use Rattle.std.proofs.Common.{◌≡◌, ℕ, true, ◌&&◌, nat_eq, List, [], length, subst}
use Rattle.std.specs.Prelude.{slice_index_or}
use Rattle.std.specs.List.{list_all, range_with_len}
use Rattle.std.specs.List.Sorted.{IsPermutation}
use Rattle.std.proofs.lemmas.Bool.{eq-eqb, and_from}
use Rattle.std.proofs.lemmas.List.{length-map}
use Rattle.plan_types.specs.declared.condition.Env.{Env}
use Rattle.plan_types.specs.declared.index.Entry.{Entry}
use Rattle.plan_types.specs.declared.index.Index.{Index}
use Rattle.plan_types.specs.declared.index.Package.{Package}
use Rattle.plan_types.specs.declared.project.Project.{Project}
use Rattle.flatten.specs.Sound.{IsSound, has_package}
use Rattle.qualified_goals.specs.Names.{NameTable, AreNumbers}
use Rattle.common_laws.specs.Lists.{all-from}
use Rattle.choice_problem.specs.Written.{is_order}
use Rattle.solver_index.specs.Orders.{AreOrders}
use Rattle.solver_index.specs.Places.{rising}
use Rattle.cabal_problem.specs.Lawful.{packages_find, extras_are_found, is_order_at, are_orders, is_lawful}
use Rattle.cabal_problem.proofs.OrderTests.{permuted_is_order}
use Rattle.cabal_problem.proofs.Findings.{all-found, extras-found}
use Rattle.plan_types.specs.Packages.{entries_of}
use Rattle.solver_index.proofs.ListLaws.{rising-below}

orders-are : (packages : List Package) (project : Project) (orders : List (List ℕ)) → AreOrders project packages orders → are_orders packages orders ≡ true
orders-are packages project orders made =
    all-from (is_order_at packages orders) (rising (length packages)) (λ p k.
    let values = slice_index_or orders p [] in
    let order = made.each p (rising-below (length packages) p k) in
    let entries = entries_of packages p in
    let permuted = subst (λ n. IsPermutation (range_with_len 0 n) values) (length-map entries (λ (e : Entry). e.instance)) order.each in
    let is = permuted_is_order (length entries) values permuted in
    and_from (nat_eq (length values) (length entries)) (is_order values) (eq-eqb (length values) (length entries) is.0) is.1)

pub made-lawful : (env : Env) (index : Index) (project : Project) (names : NameTable) (orders : List (List ℕ)) → IsSound env index → list_all (λ named. has_package index named.name) project.extra ≡ true
    → AreNumbers index.packages names → AreOrders project index.packages orders → is_lawful index.packages project names orders ≡ true
made-lawful env index project names orders sound extra numbers made =
    let finds = packages_find index.packages names in
    let extras = extras_are_found index.packages project names in
    and_from (finds && extras) (are_orders index.packages orders)
    (and_from finds extras (all-found index names numbers env sound) (extras-found index names numbers project.extra extra))
    (orders-are index.packages project orders made)
