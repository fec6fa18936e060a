-- The index has each unit that a kept unit needs.
use Rattle.std.proofs.Common.{◌≡◌, ℕ, Bool, true, ◌&&◌, List, [], ◌∷◌, ◌++◌, flat_map, Option, Some, None, refl, sym, ap, ◌∙◌}
use Rattle.std.specs.List.{AllByRecursion, list_all}
use Rattle.std.proofs.lemmas.Bool.{and_from, and_parts}
use Rattle.plan_types.specs.declared.index.Index.{Index}
use Rattle.flatten.specs.Sound.{has_unit, has_units}
use Rattle.outside_folder.specs.Files.{Bytes}
use Rattle.index_files.specs.Units.{known_name, name_at, unit_name}
use Rattle.index_files.specs.declared.unit.Unit.{Unit}
use Rattle.package_index.proofs.Units.{IsHad}

module _ (units : List Unit) (lacking : List Bool) where
  abbrev names : List Bytes → List Bytes
  names ids = flat_map (known_name units) ids

  -- the package name of a kept unit
  name-known : (id : Bytes) (had : IsHad units lacking id) → known_name units id ≡ unit_name had.u ∷ []
  name-known id had =
      ap (λ (o : Option ℕ). elim o as (λ o. List Bytes) [ None ↦ [] | Some place ↦ name_at units place ]) had.placed
      ∙ ap (λ (o : Option Unit). elim o as (λ o. List Bytes) [ None ↦ [] | Some u ↦ unit_name u ∷ [] ]) had.at

  module _ (index : Index) (listed : Bytes → Bool) (know : (id : Bytes) (had : IsHad units lacking id) → listed (unit_name had.u) ≡ true → has_unit index id (unit_name had.u) ≡ true) where
    pub know-all : (ids : List Bytes) → AllByRecursion (IsHad units lacking) ids → list_all listed (names ids) ≡ true → has_units index ids (names ids) ≡ true
    know-all [] had all = refl
    know-all (id ∷ ids) had all =
        let name = unit_name had.0.u in
        let known = name-known id had.0 in
        let split : (listed name && list_all listed (names ids)) ≡ true = ap (λ ns. list_all listed (ns ++ names ids)) (sym known) ∙ all in
        let parts = and_parts (listed name) (list_all listed (names ids)) split in
        ap (λ ns. has_units index (id ∷ ids) (ns ++ names ids)) known
        ∙ and_from (has_unit index id name) (has_units index ids (names ids)) (know id had.0 parts.0) (know-all ids had.1 parts.1)
