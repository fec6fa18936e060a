-- Sorted packages with distinct names are in goal order.
use Rattle.std.proofs.Common.{◌≡◌, ◌<◌, ◌+◌, ℕ, false, List, [], length, get_or, refl, sym, ap, ◌∙◌, subst, arith, Ordering, Less, Equal, Greater, is_lt}
use Rattle.std.specs.Cmp.Lexicographic.{bytes_decides, slice_cmp}
use Rattle.std.specs.List.{IsDistinct}
use Rattle.std.specs.List.Sorted.{IsStrictlySortedBy}
use Rattle.std.specs.Ordering.{nat_cmp, ordering_reverse}
use Rattle.std.proofs.lemmas.Bool.{false≢true}
use Rattle.std.proofs.lemmas.Cmp.{nat_list_eq_equiv}
use Rattle.std.proofs.lemmas.List.{get_or-map, length-map}
use Rattle.std.proofs.lemmas.List.Sorted.{IsPermutation-map}
use Rattle.std.proofs.lemmas.Map.Keys.{IsDistinct-IsPermutation, apart_from_distinct, sorted_from_all_adjacent}
use Rattle.std.proofs.lemmas.Map.Lookups.{exact_bytes}
use Rattle.plan_types.specs.Bytes.{same_text}
use Rattle.plan_types.specs.Packages.{no_package, package_at}
use Rattle.plan_types.specs.declared.index.Package.{Package}
use Rattle.common_laws.specs.Small.{second-equal}
use Rattle.qualified_goals.specs.Names.{AreInGoalOrder, Name, class_of, package_cmp, package_names}
use Rattle.qualified_goals.proofs.NameNumbers.{package_cmp_total}
use Rattle.common_laws.specs.StableSorts.{put_all}
use Rattle.common_laws.specs.SortedInsertion.{all_move, all_sorted, all_stable}
use Rattle.index_assembly.specs.Index.{is_package_below}
use Rattle.index_assembly.specs.Order.{in_order}
use Rattle.index_assembly.proofs.StableSorts.{package-order, sorted-is}

-- a package that isn't above another, and has a different name, is below it
below : (a b : Package) → is_package_below b a ≡ false → same_text a.name b.name ≡ false → package_cmp a b ≡ Less
below a b over apart = by (package_cmp b a) refl
  where
    named : package_cmp b a ≡ Equal → b.name ≡ a.name
    named e = exact_bytes b.name a.name (second-equal (nat_cmp (class_of b) (class_of a)) (slice_cmp nat_cmp b.name a.name) e)

    by : (o : Ordering) → package_cmp b a ≡ o → package_cmp a b ≡ Less
    by Less e = absurd (false≢true (sym over ∙ ap is_lt e))
    by Equal e = absurd (false≢true (sym apart ∙ (bytes_decides a.name b.name).1 (sym (named e))))
    by Greater e = package_cmp_total.antisymm a b ∙ ap ordering_reverse e

module _ (packages : List Package) (once : IsDistinct same_text (package_names packages)) where
  abbrev sorted : List Package
  sorted = put_all is_package_below package-order packages

  abbrev ranked : ℕ → Package
  ranked k = package_at sorted k

  still_once : IsDistinct same_text (package_names sorted)
  still_once =
      IsDistinct-IsPermutation same_text nat_list_eq_equiv.symm (package_names packages) (package_names sorted)
      (IsPermutation-map (λ (p : Package). p.name) packages sorted (all_move is_package_below package-order packages)) once

  name_at : (k : ℕ) → k < length sorted → get_or (package_names sorted) k [] ≡ (ranked k).name
  name_at k l = get_or-map (λ (p : Package). p.name) sorted k no_package [] l

  apart_at : (k : ℕ) → k + 1 < length sorted → same_text (ranked k).name (ranked (k + 1)).name ≡ false
  apart_at k l =
      let long = length-map sorted (λ (p : Package). p.name) in
      let apart = apart_from_distinct same_text (package_names sorted) k (k + 1) [] still_once (omega arith) (omega (arith, l, long)) in
      subst (λ (name : Name). same_text name (ranked (k + 1)).name ≡ false) (name_at k (omega (arith, l)))
      (subst (λ (name : Name). same_text (get_or (package_names sorted) k []) name ≡ false) (name_at (k + 1) l) apart)

  rises : IsStrictlySortedBy package_cmp sorted
  rises =
      sorted_from_all_adjacent package_cmp_total sorted no_package
      (λ k l. below (ranked k) (ranked (k + 1)) (all_sorted is_package_below package-order packages k no_package (omega arith) l) (apart_at k l))

  pub sorted_in_goal_order : AreInGoalOrder (in_order is_package_below packages)
  sorted_in_goal_order =
      let same = sorted-is is_package_below package-order packages sorted (all_sorted is_package_below package-order packages) (all_stable is_package_below package-order packages) in
      subst AreInGoalOrder same (record { rising = rises; once = still_once })
