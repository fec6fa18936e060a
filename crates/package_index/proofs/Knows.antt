-- The index has a package for each name of the closure, and each kept unit unless a local package hides it.
use Rattle.std.proofs.Common.{◌≡◌, Bool, true, ◌&&◌, ◌||◌, List, ◌++◌, map, refl, sym, ap, ◌∙◌}
use Rattle.std.specs.List.{list_any}
use Rattle.std.proofs.lemmas.Bool.{and_from}
use Rattle.std.proofs.lemmas.Cmp.{nat_list_eq_equiv}
use Rattle.plan_types.specs.declared.dependency.Named.{Named}
use Rattle.plan_types.specs.declared.index.Entry.{Entry}
use Rattle.plan_types.specs.declared.index.Index.{Index}
use Rattle.plan_types.specs.declared.index.Package.{Package}
use Rattle.flatten.specs.Sound.{has_package, has_unit, is_unit}
use Rattle.outside_folder.specs.Files.{Bytes}
use Rattle.index_files.specs.Names.{is_listed}
use Rattle.index_files.specs.Units.{unit_id, unit_name}
use Rattle.index_files.specs.declared.closure.FoundName.{FoundName}
use Rattle.index_files.specs.declared.local.Local.{Local}
use Rattle.index_files.specs.declared.unit.Unit.{Unit}
use Rattle.index_assembly.specs.Entries.{entries_named, is_unit_below, local_entries, release_entries, unit_entries, unit_entry, unmarked}
use Rattle.index_assembly.specs.Index.{is_extra, is_package_below, package_of}
use Rattle.index_assembly.specs.Order.{in_order}
use Rattle.common_laws.specs.Passing.{any-back}
use Rattle.package_index.proofs.InOrder.{some-in-order}
use Rattle.common_laws.specs.Each.{some-kept, some-map, some-then}
use Rattle.package_index.proofs.Marks.{some-unmarked}
use Rattle.package_index.proofs.Package.{package-from}
use Rattle.package_index.proofs.UnitEntries.{sorted}
use Rattle.package_index.proofs.Units.{IsHad}
use Rattle.plan_types.specs.Bytes.{same_text}

module _ (extra : List Named) (locals : List Local) (units : List Unit) (lacking : List Bool) where
  abbrev pub of_found : FoundName → Package
  of_found = package_of extra (local_entries locals) (unit_entries lacking units)

  pub found-name : (f : FoundName) → (of_found f).name ≡ f.name
  found-name f =
      package-from (λ p. p.name ≡ f.name) f.name (is_extra extra f.name) (entries_named f.name (local_entries locals)) (release_entries f.releases ++ sorted units lacking f.name)
      (λ none. refl) (λ e more is. refl)

  pub found-extra : (f : FoundName) → (of_found f).extra ≡ is_extra extra f.name
  found-extra f =
      package-from (λ p. p.extra ≡ is_extra extra f.name) f.name (is_extra extra f.name) (entries_named f.name (local_entries locals)) (release_entries f.releases ++ sorted units lacking f.name)
      (λ none. refl) (λ e more is. refl)

  -- a kept unit is in the package of its name, unless that is local
  module _ (id : Bytes) (had : IsHad units lacking id) where
    abbrev is_there : Package → Bool
    is_there p = p.local || list_any (is_unit id) p.entries

    unit-there : (name : Bytes) → same_text (unit_name had.u) name ≡ true → list_any (is_unit id) (sorted units lacking name) ≡ true
    unit-there name is =
        some-in-order is_unit_below (is_unit id) (entries_named name (unit_entries lacking units))
        (some-kept (λ (e : Entry). same_text e.instance.name name) (is_unit id) (unit_entries lacking units)
        (some-map (λ (e : Entry). same_text e.instance.name name && is_unit id e) (unit_entry units) (unmarked lacking units)
        ∙ some-unmarked (λ u. same_text (unit_name u) name && same_text (unit_id u) id) lacking units had.place had.u had.at had.unmarked
        (and_from (same_text (unit_name had.u) name) (same_text (unit_id had.u) id) is (nat_list_eq_equiv.symm (unit_id had.u) id ∙ had.same_id))))

    found-there : (f : FoundName) → same_text f.name (unit_name had.u) ≡ true → is_there (of_found f) ≡ true
    found-there f is =
        package-from (λ p. is_there p ≡ true) f.name (is_extra extra f.name) (entries_named f.name (local_entries locals)) (release_entries f.releases ++ sorted units lacking f.name)
        (λ none. any-back (is_unit id) (release_entries f.releases) (sorted units lacking f.name) (unit-there f.name (nat_list_eq_equiv.symm (unit_name had.u) f.name ∙ is)))
        (λ e more is. refl)

  module _ (found : List FoundName) (index : Index) (made : index.packages ≡ in_order is_package_below (map of_found found)) where
    abbrev names : List Bytes
    names = map (λ (f : FoundName). f.name) found

    some-package : (test : Package → Bool) → list_any (λ f. test (of_found f)) found ≡ true → list_any test index.packages ≡ true
    some-package test some = ap (list_any test) made ∙ some-in-order is_package_below test (map of_found found) (some-map test of_found found ∙ some)

    name-found : (name : Bytes) → is_listed names name ≡ true → list_any (λ (f : FoundName). same_text f.name name) found ≡ true
    name-found name listed =
        some-then (λ (f : FoundName). same_text name f.name) (λ (f : FoundName). same_text f.name name) found (λ f e. nat_list_eq_equiv.symm f.name name ∙ e)
        (sym (some-map (same_text name) (λ (f : FoundName). f.name) found) ∙ listed)

    pub knows-package : (name : Bytes) → is_listed names name ≡ true → has_package index name ≡ true
    knows-package name listed =
        some-package (λ p. same_text p.name name)
        (some-then (λ (f : FoundName). same_text f.name name) (λ f. same_text (of_found f).name name) found (λ f e. ap (λ n. same_text n name) (found-name f) ∙ e) (name-found name listed))

    pub knows-unit : (id : Bytes) (had : IsHad units lacking id) → is_listed names (unit_name had.u) ≡ true → has_unit index id (unit_name had.u) ≡ true
    knows-unit id had listed =
        let name = unit_name had.u in
        some-package (λ p. same_text p.name name && is_there id had p)
        (some-then (λ (f : FoundName). same_text f.name name) (λ f. same_text (of_found f).name name && is_there id had (of_found f)) found
        (λ f e. and_from (same_text (of_found f).name name) (is_there id had (of_found f)) (ap (λ n. same_text n name) (found-name f) ∙ e) (found-there id had f e))
        (name-found name listed))
