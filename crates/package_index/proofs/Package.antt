-- A package whose entries are in order: one local release, or releases followed by units.
use Rattle.std.proofs.Common.{◌≡◌, ◌≤◌, Bool, true, false, not, List, [], ◌∷◌, ◌++◌, length, map, filter, refl, sym, ap, ◌∙◌, subst, arith}
use Rattle.std.specs.List.{AllByRecursion, IsDistinct}
use Rattle.std.specs.List.Sorted.{IsStrictlySortedBy}
use Rattle.std.proofs.lemmas.Bool.{false≢true, not_from_false, not_from_true}
use Rattle.std.proofs.lemmas.List.{append-nil, nil_from_length}
use Rattle.std.proofs.lemmas.List.Elements.{filter-append}
use Rattle.plan_types.specs.Members.{order}
use Rattle.plan_types.specs.Name.{is_package_name}
use Rattle.plan_types.specs.declared.condition.Env.{Env}
use Rattle.plan_types.specs.declared.index.Entry.{Entry}
use Rattle.plan_types.specs.declared.index.Index.{Index}
use Rattle.plan_types.specs.declared.index.Package.{Package}
use Rattle.flatten.specs.Sound.{IsEntry, IsInOrder, IsPackage, releases, unit_order, units}
use Rattle.outside_folder.specs.Files.{Bytes}
use Rattle.index_assembly.specs.Index.{package_from}
use Rattle.package_index.proofs.Entries.{IsEntryOf}
use Rattle.common_laws.specs.Each.{each-append, each-then, filter-kept, filter-none}
use Rattle.package_index.proofs.Releases.{numbers_of}
use Rattle.plan_types.specs.Bytes.{same_text}
use Rattle.plan_types.specs.Packages.{is_installed}

abbrev pub IsRelease : Entry → Type 0
IsRelease e = is_installed e.body ≡ false

abbrev pub IsUnit : Entry → Type 0
IsUnit e = is_installed e.body ≡ true

abbrev pub id_of : Entry → Bytes
id_of e = e.instance.unit

abbrev is_release : Entry → Bool
is_release e = not (is_installed e.body)

abbrev is_unit : Entry → Bool
is_unit e = is_installed e.body

module _ (here after : List Entry) (are-releases : AllByRecursion IsRelease here) (are-units : AllByRecursion IsUnit after) where
  only-releases : filter is_release (here ++ after) ≡ here
  only-releases =
      filter-append is_release here after
      ∙ ap (λ es. es ++ filter is_release after) (filter-kept is_release here (each-then IsRelease (λ e. is_release e ≡ true) here (λ e h. not_from_false (is_installed e.body) h) are-releases))
      ∙ ap (λ es. here ++ es) (filter-none is_release after (each-then IsUnit (λ e. is_release e ≡ false) after (λ e h. not_from_true (is_installed e.body) h) are-units))
      ∙ append-nil here

  only-units : filter is_unit (here ++ after) ≡ after
  only-units =
      filter-append is_unit here after
      ∙ ap (λ es. es ++ filter is_unit after) (filter-none is_unit here are-releases)
      ∙ filter-kept is_unit after are-units

  pub in-order : (p : Package) → p.entries ≡ here ++ after → IsStrictlySortedBy order (map numbers_of here) → IsStrictlySortedBy unit_order after → IsDistinct same_text (map id_of after) → IsInOrder p
  in-order p is versions ids once =
      let first : releases p ≡ here = ap (filter is_release) is ∙ only-releases in
      let second : units p ≡ after = ap (filter is_unit) is ∙ only-units in
      record {
        releases_first = is ∙ ap (λ es. es ++ after) (sym first) ∙ ap (λ es. releases p ++ es) (sym second);
        versions_rise = subst (λ es. IsStrictlySortedBy order (map numbers_of es)) (sym first) versions;
        units_rise = subst (IsStrictlySortedBy unit_order) (sym second) ids;
        units_once = subst (λ es. IsDistinct same_text (map id_of es)) (sym second) once;
      }

-- by cases: a local package of the name, or all other entries
pub package-from : (P : Package → Type 0) (name : Bytes) (extra : Bool) (own others : List Entry)
    → (own ≡ [] → P (record { name = name; local = false; extra = extra; entries = others }))
    → ((e : Entry) (more : List Entry) → own ≡ e ∷ more → P (record { name = name; local = true; extra = extra; entries = e ∷ more }))
    → P (package_from name extra own others)
package-from P name extra [] others without with = without refl
package-from P name extra (e ∷ more) others without with = with e more refl

module _ (env : Env) (index : Index) (name : Bytes) (extra : Bool) (formed : is_package_name name ≡ true) where
  entries-of : (local : Bool) (es : List Entry) (p : Package) → p.local ≡ local → p.name ≡ name → AllByRecursion (IsEntryOf env index local name) es → AllByRecursion (IsEntry env index p) es
  entries-of local es p is names all = each-then (IsEntryOf env index local name) (IsEntry env index p) es (λ e h. h p is names) all

  one-local : (e : Entry) → IsRelease e → IsEntryOf env index true name e → IsPackage env index (record { name = name; local = true; extra = extra; entries = e ∷ [] })
  unfolding IsStrictlySortedBy IsDistinct
  one-local e release entry =
      let p : Package = record { name = name; local = true; extra = extra; entries = e ∷ [] } in
      record {
        name = formed;
        in_order = in-order (e ∷ []) [] (release, tt) tt p refl (tt, tt) tt tt;
        local_is_one = λ local. record { one = refl; no_units = only-units (e ∷ []) [] (release, tt) tt };
        entries = entries-of true (e ∷ []) p refl refl (entry, tt);
      }

  pub local-package : (e : Entry) (more : List Entry) → length (e ∷ more) ≤ 1 → AllByRecursion IsRelease (e ∷ more) → AllByRecursion (IsEntryOf env index true name) (e ∷ more)
      → IsPackage env index (record { name = name; local = true; extra = extra; entries = e ∷ more })
  local-package e more short release entry =
      subst (λ rest. IsPackage env index (record { name = name; local = true; extra = extra; entries = e ∷ rest })) (sym (nil_from_length more (omega (arith, short)))) (one-local e release.0 entry.0)

  pub other-package : (here after : List Entry) → AllByRecursion IsRelease here → AllByRecursion IsUnit after
      → IsStrictlySortedBy order (map numbers_of here) → IsStrictlySortedBy unit_order after → IsDistinct same_text (map id_of after)
      → AllByRecursion (IsEntryOf env index false name) here → AllByRecursion (IsEntryOf env index false name) after
      → IsPackage env index (record { name = name; local = false; extra = extra; entries = here ++ after })
  other-package here after are-releases are-units versions ids once first second =
      let p : Package = record { name = name; local = false; extra = extra; entries = here ++ after } in
      record {
        name = formed;
        in_order = in-order here after are-releases are-units p refl versions ids once;
        local_is_one = λ local. absurd (false≢true local);
        entries = entries-of false (here ++ after) p refl refl (each-append (IsEntryOf env index false name) here after first second);
      }
