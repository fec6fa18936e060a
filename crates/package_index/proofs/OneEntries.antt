-- The packages and skipped files of an index don't depend on the order of the names.
use Rattle.std.proofs.Common.{◌≡◌, Bool, false, not, List, [], ◌∷◌, ◌++◌, map, refl, sym, ◌∙◌, ap, subst}
use Rattle.std.specs.Prelude.{flat_map}
use Rattle.std.specs.Cmp.{IsTotalOrder}
use Rattle.std.specs.Cmp.Lexicographic.{bytes_decides, slice_cmp}
use Rattle.std.specs.List.{AllByRecursion, IsDistinct}
use Rattle.std.specs.Ordering.{is_lt, nat_cmp, ordering_reverse}
use Rattle.std.specs.declared.cmp.Ordering.{Ordering}
use Rattle.std.specs.declared.cmp.Ordering.TheVariants.{Less, Equal, Greater}
use Rattle.std.proofs.lemmas.Bool.{true≢false}
use Rattle.std.proofs.lemmas.Cmp.{nat_list_cmp_total}
use Rattle.std.proofs.lemmas.List.MinMax.{ranks_by}
use Rattle.std.proofs.lemmas.Map.Lookups.{exact_bytes}
use Rattle.plan_types.specs.declared.dependency.Named.{Named}
use Rattle.plan_types.specs.declared.index.Entry.{Entry}
use Rattle.plan_types.specs.declared.index.Package.{Package}
use Rattle.plan_types.specs.declared.index.Skipped.{Skipped}
use Rattle.qualified_goals.specs.Names.{package_cmp}
use Rattle.qualified_goals.proofs.NameNumbers.{package_cmp_total}
use Rattle.outside_folder.specs.Files.{Bytes, Files}
use Rattle.index_files.specs.Closure.{Ground, IsVisit, Visit, found_of, names_of}
use Rattle.plan_types.specs.declared.index.Places.{Places}
use Rattle.index_files.specs.declared.release.Judged.{Judged}
use Rattle.index_files.specs.declared.release.Judged.TheVariants.{Readable, Faulty}
use Rattle.index_files.specs.declared.release.Release.{Release}
use Rattle.index_assembly.specs.Entries.{entries_named, is_unit_below, release_entries}
use Rattle.index_assembly.specs.Index.{is_extra, is_package_below, is_path_below, package_from, package_of, skipped_by, skipped_in}
use Rattle.index_assembly.specs.Order.{in_order}
use Rattle.package_index.proofs.Blocks.{AreApart, IsApart, one-in-order}
use Rattle.package_index.proofs.Orders.{package-told}
use Rattle.package_index.proofs.Paths.{IsPathOf, one-name}
use Rattle.package_index.proofs.Taken.{Leaves}
use Rattle.package_index.proofs.Visits.{visit-paths}
use Rattle.plan_types.specs.Bytes.{same_text}

-- ---- orders

-- of two that don't tie, exactly one is less
apart-by : {K : Type 0} (R : K → K → Ordering) → IsTotalOrder R → (x y : K) → (R x y ≡ Equal → ⊥) → is_lt (R x y) ≡ not (is_lt (R y x))
apart-by R total x y never =
    elim (R y x) as (λ o. R x y ≡ ordering_reverse o → is_lt (R x y) ≡ not (is_lt o)) [
      | Less ↦ λ e. ap is_lt e
      | Equal ↦ λ e. absurd (never e)
      | Greater ↦ λ e. ap is_lt e
    ] (total.antisymm x y)

names-apart : (m n : Bytes) → same_text m n ≡ false → n ≡ m → ⊥
names-apart m n h e = true≢false (sym ((bytes_decides m n).1 (sym e)) ∙ h)

-- ---- packages

name-from : (name : Bytes) (extra : Bool) (own others : List Entry) → (package_from name extra own others).name ≡ name
name-from name extra [] others = refl
name-from name extra (entry ∷ own) others = refl

module _ (extra : List Named) (locals units : List Entry) where
  abbrev package_at : Visit → Package
  package_at v = package_of extra locals units (found_of v)

  name-at : (v : Visit) → (package_at v).name ≡ v.name
  name-at v = name-from v.name (is_extra extra v.name) (entries_named v.name locals)
      (release_entries v.releases ++ in_order is_unit_below (entries_named v.name units))

  packages-apart : (v w : Visit) → same_text v.name w.name ≡ false → IsApart is_package_below (package_at w) (package_at v)
  packages-apart v w h =
      apart-by package_cmp package_cmp_total (package_at w) (package_at v)
      (λ e. names-apart v.name w.name h (sym (name-at w) ∙ package-told (package_at w) (package_at v) e ∙ name-at v))

  as-blocks : (visits : List Visit) → map (package_of extra locals units) (map found_of visits) ≡ flat_map (λ v. package_at v ∷ []) visits
  as-blocks [] = refl
  as-blocks (v ∷ visits) = ap (λ packages. package_at v ∷ packages) (as-blocks visits)

  pub one-packages : (P : Visit → Type 0) (visits others : List Visit) → Leaves visits others [] → AllByRecursion P visits → IsDistinct same_text (names_of visits)
      → in_order is_package_below (map (package_of extra locals units) (map found_of visits)) ≡ in_order is_package_below (map (package_of extra locals units) (map found_of others))
  one-packages P visits others left all once =
      ap (in_order is_package_below) (as-blocks visits)
      ∙ one-in-order is_package_below (ranks_by package_cmp_total (λ (p : Package). p)) (λ v. package_at v ∷ []) P (λ (v : Visit). v.name)
      (λ v w p q h. ((packages-apart v w h, tt), tt)) visits others left all once
      ∙ ap (in_order is_package_below) (sym (as-blocks others))

-- ---- skipped files

abbrev IsSkippedOf : Places → Bytes → Skipped → Type 0
IsSkippedOf places name skipped = IsPathOf places name skipped.path

module _ (places : Places) where
  skipped-one : (name path : Bytes) (judged : Judged) (more : List Skipped) → IsPathOf places name path → AllByRecursion (IsSkippedOf places name) more
      → AllByRecursion (IsSkippedOf places name) (skipped_by path judged ++ more)
  skipped-one name path (Readable source) more p h = h
  skipped-one name path (Faulty line cause) more p h = (p, h)

  skipped-paths : (name : Bytes) (releases : List Release) → AllByRecursion (λ (release : Release). IsPathOf places name release.path) releases
      → AllByRecursion (IsSkippedOf places name) (flat_map (λ (release : Release). skipped_by release.path release.judged) releases)
  skipped-paths name [] h = tt
  skipped-paths name (release ∷ releases) h = skipped-one name release.path release.judged
      (flat_map (λ (other : Release). skipped_by other.path other.judged) releases) h.0 (skipped-paths name releases h.1)

  module _ (m n : Bytes) (apart : m ≡ n → ⊥) where
    apart-from : (a : Skipped) (bs : List Skipped) → IsSkippedOf places m a → AllByRecursion (IsSkippedOf places n) bs → AllByRecursion (IsApart is_path_below a) bs
    apart-from a [] h k = tt
    apart-from a (b ∷ bs) h k = (
      apart-by (slice_cmp nat_cmp) nat_list_cmp_total a.path b.path
          (λ e. apart (one-name places m n a.path h (subst (IsPathOf places n) (sym (exact_bytes a.path b.path e)) k.0))),
      apart-from a bs h k.1,
    )

    all-apart : (xs ys : List Skipped) → AllByRecursion (IsSkippedOf places m) xs → AllByRecursion (IsSkippedOf places n) ys → AreApart is_path_below xs ys
    all-apart [] ys h k = tt
    all-apart (x ∷ xs) ys h k = (apart-from x ys h.0 k, all-apart xs ys h.1 k)

module _ (ground : Ground) (files : Files) where
  abbrev skipped_at : Visit → List Skipped
  skipped_at v = skipped_in (found_of v)

  skipped-apart : (v w : Visit) → IsVisit ground files v → IsVisit ground files w → same_text v.name w.name ≡ false → AreApart is_path_below (skipped_at w) (skipped_at v)
  skipped-apart v w h k apart =
      all-apart ground.places w.name v.name (names-apart v.name w.name apart) (skipped_at w) (skipped_at v)
      (skipped-paths ground.places w.name w.releases (visit-paths ground files w k)) (skipped-paths ground.places v.name v.releases (visit-paths ground files v h))

  at-visits : (visits : List Visit) → flat_map skipped_in (map found_of visits) ≡ flat_map skipped_at visits
  at-visits [] = refl
  at-visits (v ∷ visits) = ap (λ skipped. skipped_at v ++ skipped) (at-visits visits)

  pub one-skipped : (visits others : List Visit) → Leaves visits others [] → AllByRecursion (IsVisit ground files) visits → IsDistinct same_text (names_of visits)
      → in_order is_path_below (flat_map skipped_in (map found_of visits)) ≡ in_order is_path_below (flat_map skipped_in (map found_of others))
  one-skipped visits others left all once =
      ap (in_order is_path_below) (at-visits visits)
      ∙ one-in-order is_path_below (ranks_by nat_list_cmp_total (λ (s : Skipped). s.path)) skipped_at (IsVisit ground files) (λ (v : Visit). v.name) skipped-apart visits others left all once
      ∙ ap (in_order is_path_below) (sym (at-visits others))
