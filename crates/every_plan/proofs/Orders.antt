-- The instances of each package in the order in which they are tried.
use Rattle.std.proofs.Common.{◌<◌, ℕ, zero, suc, Bool, List, [], ◌∷◌, length, map, arith}
use Rattle.std.specs.Prelude.{slice_index_or}
use Rattle.std.specs.Cmp.{IsStrictWeakOrder}
use Rattle.std.specs.List.{range_with_len}
use Rattle.std.specs.Ordering.{is_lt}
use Rattle.std.proofs.lemmas.List.{length-map}
use Rattle.std.proofs.lemmas.List.MinMax.{ranks_by}
use Rattle.plan_types.specs.Packages.{package_at}
use Rattle.plan_types.specs.declared.index.Package.{Package}
use Rattle.plan_types.specs.declared.project.Project.{Project}
use Rattle.common_laws.specs.StableSorts.{put_all}
use Rattle.preferences.specs.Places.{place_cmp}
use Rattle.preferences.proofs.TotalOrders.{place-total}
use Rattle.solver_index.specs.Orders.{AreOrders, IsOrderOf, instances_of, policy_of, preferred_of}
use Rattle.common_laws.specs.SortedInsertion.{all_move, all_sorted}

module _ (project : Project) where
  some_order : (package_is : Package) → (values : List ℕ) × IsOrderOf project package_is values
  some_order p =
      let cmp = place_cmp (policy_of project p) (preferred_of project p.name) (instances_of p) in
      let lt : ℕ → ℕ → Bool = λ a b. is_lt (cmp a b) in
      let order : IsStrictWeakOrder lt = ranks_by (place-total (policy_of project p) (preferred_of project p.name) (instances_of p)) (λ (place : ℕ). place) in
      let places = range_with_len 0 (length (instances_of p)) in
      (put_all lt order places, record { each = all_move lt order places; sorted = all_sorted lt order places })

  abbrev order_of : Package → List ℕ
  order_of p = (some_order p).0

  each_order : (packages : List Package) (k : ℕ) → k < length packages → IsOrderOf project (package_at packages k) (slice_index_or (map order_of packages) k [])
  each_order [] k l = absurd (omega (arith, l))
  each_order (p ∷ packages) zero l = (some_order p).1
  each_order (p ∷ packages) (suc k) l = each_order packages k (omega (arith, l))

  pub some_orders : (packages : List Package) → (orders : List (List ℕ)) × AreOrders project packages orders
  some_orders packages = (map order_of packages, record { count = length-map packages order_of; each = each_order packages })
