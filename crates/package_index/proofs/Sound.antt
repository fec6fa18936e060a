-- The index of readings is sound.
use Rattle.std.proofs.Common.{◌≡◌, ◌≤◌, true, false, List, [], ◌∷◌, ◌++◌, map, length, refl, sym, ap, ◌∙◌, subst}
use Rattle.std.specs.List.{AllByRecursion, IsDistinct, list_all}
use Rattle.std.specs.List.Sorted.{IsStrictlySortedBy}
use Rattle.plan_types.specs.Name.{is_package_name}
use Rattle.plan_types.specs.declared.condition.Env.{Env}
use Rattle.plan_types.specs.declared.dependency.Named.{Named}
use Rattle.plan_types.specs.declared.index.Entry.{Entry}
use Rattle.plan_types.specs.declared.index.Index.{Index}
use Rattle.plan_types.specs.declared.index.Package.{Package}
use Rattle.qualified_goals.specs.Names.{AreInGoalOrder, package_cmp}
use Rattle.qualified_goals.proofs.NameNumbers.{package_cmp_total}
use Rattle.flatten.specs.Sound.{IsPackage, IsSound, has_package}
use Rattle.outside_folder.specs.Files.{Bytes}
use Rattle.index_files.specs.Closure.{Ground, asked_locally, mentioned, roots}
use Rattle.index_files.specs.Locals.{local_names}
use Rattle.index_files.specs.Names.{is_listed}
use Rattle.index_files.specs.Readings.{AreWellFormed}
use Rattle.index_files.specs.Releases.{asked_in}
use Rattle.index_files.specs.Steps.{AreJudged, is_given}
use Rattle.index_files.specs.Units.{needed_by}
use Rattle.index_files.specs.declared.closure.FoundName.{FoundName}
use Rattle.plan_types.specs.declared.index.Places.{Places}
use Rattle.index_files.specs.declared.readings.Readings.{Readings}
use Rattle.index_assembly.specs.Entries.{entries_named, local_entries, release_entries}
use Rattle.index_assembly.specs.Index.{IsIndexOf, is_extra, is_package_below}
use Rattle.index_assembly.specs.Order.{in_order}
use Rattle.package_index.proofs.Entries.{IsEntryOf}
use Rattle.package_index.proofs.InOrder.{each-in-order, once-in-order, rises-in-order}
use Rattle.package_index.proofs.Knows.{found-extra, found-name, knows-package, knows-unit, of_found}
use Rattle.common_laws.specs.Each.{all-listed, each-any, each-back, each-both, each-front, each-listed, each-map, each-of-map, each-then}
use Rattle.package_index.proofs.LocalEntries.{are-local-releases, each-local, one-local-entry}
use Rattle.package_index.proofs.Locals.{locals-well}
use Rattle.package_index.proofs.Names.{given-formed}
use Rattle.package_index.proofs.Orders.{name_of, package-told}
use Rattle.package_index.proofs.Package.{IsRelease, local-package, other-package, package-from}
use Rattle.package_index.proofs.ReleaseEntries.{are-releases, each-release, versions-rise}
use Rattle.package_index.proofs.Releases.{AreGood, IsReleaseOf, judged-good}
use Rattle.package_index.proofs.Sources.{AreDescribed, IsWell, source-well}
use Rattle.package_index.proofs.UnitEntries.{are-units, each-unit, sorted, units-once, units-rise}
use Rattle.plan_types.specs.Bytes.{same_text}

module _ (extra : List Named) (readings : Readings) (index : Index) (made : IsIndexOf extra readings index) where
  abbrev names : List Bytes
  names = map (λ (f : FoundName). f.name) readings.found

  abbrev of : FoundName → Package
  of = of_found extra readings.locals readings.units made.lacking

  packages-are : index.packages ≡ in_order is_package_below (map of readings.found)
  packages-are = ap (λ (i : Index). i.packages) made.index_is

  each-package : (P : Package → Type 0) → AllByRecursion (λ f. P (of f)) readings.found → AllByRecursion P index.packages
  each-package P all = subst (AllByRecursion P) (sym packages-are) (each-in-order is_package_below P (map of readings.found) (each-map P of readings.found all))

  abbrev Listed : Bytes → Type 0
  Listed name = is_listed names name ≡ true

  abbrev Has : Bytes → Type 0
  Has name = has_package index name ≡ true

  has : (name : Bytes) → Listed name → Has name
  has = knows-package extra readings.locals readings.units made.lacking readings.found index packages-are

  pub extras-marked : AllByRecursion (λ (p : Package). p.extra ≡ is_extra extra p.name) index.packages
  extras-marked =
      each-package (λ p. p.extra ≡ is_extra extra p.name)
      (each-any (λ f. (of f).extra ≡ is_extra extra (of f).name) readings.found
      (λ f. found-extra extra readings.locals readings.units made.lacking f ∙ ap (is_extra extra) (sym (found-name extra readings.locals readings.units made.lacking f))))

  module _ (env : Env) (places : Places) (form : AreWellFormed env places extra readings) where
    abbrev ground : Ground
    ground = record { env = env; places = places; locals = readings.locals; units = readings.units; extra = extra }

    pub extras-there : list_all (λ (named : Named). has_package index named.name) extra ≡ true
    extras-there =
        all-listed (λ (named : Named). has_package index named.name) extra
        (each-then (λ (named : Named). Listed named.name) (λ (named : Named). Has named.name) extra (λ named listed. has named.name listed)
        (each-of-map Listed (λ (named : Named). named.name) extra
        (each-back Listed (local_names readings.locals) (map (λ (named : Named). named.name) extra) (each-listed (is_listed names) (roots ground) form.kept.begun))))

    -- ---- goal order

    of-names : (found : List FoundName) → map name_of (map of found) ≡ map (λ (f : FoundName). f.name) found
    of-names [] = refl
    of-names (f ∷ found) = λ i. found-name extra readings.locals readings.units made.lacking f i ∷ of-names found i

    once : IsDistinct same_text (map name_of (map of readings.found))
    once = subst (IsDistinct same_text) (sym (of-names readings.found)) form.kept.once

    in-goal-order : AreInGoalOrder index.packages
    in-goal-order = record {
      rising = subst (IsStrictlySortedBy package_cmp) (sym packages-are) (rises-in-order package_cmp name_of package_cmp_total package-told (map of readings.found) once);
      once = subst (λ ps. IsDistinct same_text (map name_of ps)) (sym packages-are) (once-in-order package_cmp name_of package_cmp_total package-told (map of readings.found) once);
    }

    -- ---- each name

    abbrev IsClosed : FoundName → Type 0
    IsClosed f = AllByRecursion Listed (mentioned ground f)

    all-closed : AllByRecursion IsClosed readings.found
    all-closed =
        each-then (λ f. list_all (is_listed names) (mentioned ground f) ≡ true) IsClosed readings.found (λ f all. each-listed (is_listed names) (mentioned ground f) all)
        (each-listed (λ f. list_all (is_listed names) (mentioned ground f)) readings.found form.kept.closed)

    abbrev IsGood : FoundName → Type 0
    IsGood f = AreGood env f.name f.releases

    abbrev IsFormedName : FoundName → Type 0
    IsFormedName f = is_package_name f.name ≡ true

    module _ (laws : AreDescribed) (extra-formed : list_all (λ (named : Named). is_package_name named.name) extra ≡ true) where
      all-locals : AllByRecursion (λ l. IsWell env l.source) readings.locals
      all-locals = locals-well env (source-well laws env) readings.locals form.locals.read

      all-good : AllByRecursion IsGood readings.found
      all-good = each-then (λ f. AreJudged env f.name f.releases) IsGood readings.found (λ f judged. judged-good env (source-well laws env) f.name f.releases judged) form.kept.judged

      name-formed : (name : Bytes) → is_given ground readings.found name ≡ true → is_package_name name ≡ true
      name-formed name given =
          given-formed ground all-locals form.units_formed readings.found name (each-listed (λ (named : Named). is_package_name named.name) extra extra-formed)
          (each-then IsGood (λ f. AllByRecursion (λ r. IsReleaseOf env f.name r.judged) f.releases) readings.found (λ f good. good.each) all-good) given

      all-formed : AllByRecursion IsFormedName readings.found
      all-formed =
          each-of-map (λ name. is_package_name name ≡ true) (λ (f : FoundName). f.name) readings.found
          (each-then (λ name. is_given ground readings.found name ≡ true) (λ name. is_package_name name ≡ true) names name-formed form.kept.given)

      -- ---- a package

      module _ (f : FoundName) (formed : IsFormedName f) (good : IsGood f) (closed : IsClosed f) where
        abbrev asked : List Bytes
        asked = asked_locally readings.locals f.name

        abbrev needed : List Bytes
        needed = needed_by readings.units f.name

        before : AllByRecursion Listed (asked ++ needed)
        before = each-front Listed (asked ++ needed) (asked_in f.releases) closed

        local-well : (e : Entry) (more : List Entry) → entries_named f.name (local_entries readings.locals) ≡ e ∷ more → IsPackage env index (record { name = f.name; local = true; extra = is_extra extra f.name; entries = e ∷ more })
        local-well e more is =
            local-package env index f.name (is_extra extra f.name) formed e more
            (subst (λ es. length es ≤ 1) is (one-local-entry f.name readings.locals form.locals.once))
            (subst (AllByRecursion IsRelease) is (are-local-releases f.name readings.locals))
            (subst (AllByRecursion (IsEntryOf env index true f.name)) is
            (each-local f.name readings.locals env index all-locals form.locals.once (each-then Listed Has asked has (each-front Listed asked needed before))))

        other-well : IsPackage env index (record { name = f.name; local = false; extra = is_extra extra f.name; entries = release_entries f.releases ++ sorted readings.units made.lacking f.name })
        other-well =
            other-package env index f.name (is_extra extra f.name) formed (release_entries f.releases) (sorted readings.units made.lacking f.name)
            (are-releases f.releases) (are-units readings.units made.lacking f.name)
            (versions-rise env f.name f.releases good) (units-rise readings.units made.lacking f.name form.units_once) (units-once readings.units made.lacking f.name form.units_once)
            (each-release env f.name f.releases good index (each-then Listed Has (asked_in f.releases) has (each-back Listed (asked ++ needed) (asked_in f.releases) closed)))
            (each-unit readings.units made.lacking f.name (is_listed names) env index made.lacks form.units_formed
            (knows-unit extra readings.locals readings.units made.lacking readings.found index packages-are) (each-back Listed asked needed before))

        package-well : IsPackage env index (of f)
        package-well =
            package-from (IsPackage env index) f.name (is_extra extra f.name) (entries_named f.name (local_entries readings.locals)) (release_entries f.releases ++ sorted readings.units made.lacking f.name)
            (λ none. other-well) local-well

      pub gathered-sound : IsSound env index
      gathered-sound = record {
        in_goal_order = in-goal-order;
        packages = each-package (IsPackage env index)
            (each-both (λ f. IsFormedName f × IsGood f) IsClosed (λ f. IsPackage env index (of f)) readings.found (λ f h closed. package-well f h.0 h.1 closed)
            (each-both IsFormedName IsGood (λ f. IsFormedName f × IsGood f) readings.found (λ f formed good. (formed, good)) all-formed all-good) all-closed);
      }
