-- The entries of units rise, their ids are distinct, and each is a sound entry of its package.
use Rattle.std.proofs.Common.{◌≡◌, ℕ, Bool, true, false, if◌then◌else◌, List, [], ◌∷◌, map, Some, refl, sym, ap, subst}
use Rattle.std.specs.List.{AllByRecursion, IsDistinct, slice_get}
use Rattle.std.specs.List.Sorted.{IsStrictlySortedBy}
use Rattle.std.specs.Cmp.Lexicographic.{bytes_decides}
use Rattle.plan_types.specs.declared.condition.Env.{Env}
use Rattle.plan_types.specs.declared.index.Entry.{Entry}
use Rattle.plan_types.specs.declared.index.Index.{Index}
use Rattle.flatten.specs.Sound.{has_unit, unit_order}
use Rattle.outside_folder.specs.Files.{Bytes}
use Rattle.index_files.specs.Units.{IsWellFormed, needed_by, needed_names, unit_id, unit_ids, unit_name}
use Rattle.index_files.specs.declared.unit.Unit.{Unit}
use Rattle.index_assembly.specs.Entries.{entries_named, is_unit_below, unit_entries, unit_entry, unmarked}
use Rattle.index_assembly.specs.Lacks.{AreLacking}
use Rattle.index_assembly.specs.Order.{in_order}
use Rattle.package_index.proofs.Distinct.{is_named, once-kept}
use Rattle.package_index.proofs.Entries.{IsEntryOf, unit-is}
use Rattle.package_index.proofs.InOrder.{each-in-order, once-in-order, rises-in-order}
use Rattle.package_index.proofs.NeededUnits.{know-all}
use Rattle.common_laws.specs.Each.{all-listed, each-any, each-at, each-map, each-of-flat, each-passed, each-then}
use Rattle.package_index.proofs.Marks.{IsUnmarked, each-unmarked, once-unmarked}
use Rattle.package_index.proofs.Orders.{unit-told, unit_order_total}
use Rattle.package_index.proofs.Package.{IsUnit, id_of}
use Rattle.package_index.proofs.Units.{IsHad, needs-had}
use Rattle.plan_types.specs.Bytes.{same_text}

-- whether an entry has this package name
abbrev pub is_of : Bytes → Entry → Bool
is_of name = is_named (λ (e : Entry). e.instance.name) name

entry-ids : (units some : List Unit) → map id_of (map (unit_entry units) some) ≡ unit_ids some
entry-ids units [] = refl
entry-ids units (u ∷ some) = ap (λ ids. unit_id u ∷ ids) (entry-ids units some)

module _ (units : List Unit) (lacking : List Bool) (name : Bytes) where
  abbrev named : List Entry
  named = entries_named name (unit_entries lacking units)

  abbrev pub sorted : List Entry
  sorted = in_order is_unit_below named

  pub are-units : AllByRecursion IsUnit sorted
  are-units =
      each-in-order is_unit_below IsUnit named
      (each-passed (is_of name) IsUnit (unit_entries lacking units)
      (each-map (λ e. is_of name e ≡ true → IsUnit e) (unit_entry units) (unmarked lacking units)
      (each-any (λ u. is_of name (unit_entry units u) ≡ true → IsUnit (unit_entry units u)) (unmarked lacking units) (λ u named. refl))))

  ids-once : IsDistinct same_text (unit_ids units) → IsDistinct same_text (map id_of named)
  ids-once once = once-kept id_of (is_of name) (unit_entries lacking units) (subst (IsDistinct same_text) (sym (entry-ids units (unmarked lacking units))) (once-unmarked unit_id lacking units once))

  pub units-rise : IsDistinct same_text (unit_ids units) → IsStrictlySortedBy unit_order sorted
  units-rise once = rises-in-order unit_order id_of unit_order_total unit-told named (ids-once once)

  pub units-once : IsDistinct same_text (unit_ids units) → IsDistinct same_text (map id_of sorted)
  units-once once = once-in-order unit_order id_of unit_order_total unit-told named (ids-once once)

  -- ---- each is sound

  module _ (listed : Bytes → Bool) where
    abbrev Listed : Bytes → Type 0
    Listed other = listed other ≡ true

    abbrev IsNeeding : Unit → Type 0
    IsNeeding u = same_text (unit_name u) name ≡ true → AllByRecursion Listed (needed_names units u)

    each-needing : AllByRecursion Listed (needed_by units name) → AllByRecursion IsNeeding units
    each-needing all =
        let needed : Unit → List Bytes = λ u. if same_text (unit_name u) name then needed_names units u else [] in
        each-then (λ u. AllByRecursion Listed (needed u)) IsNeeding units (λ u h e. subst (λ b. AllByRecursion Listed (if b then needed_names units u else [])) e h) (each-of-flat Listed needed units all)

    module _ (env : Env) (index : Index) (lacks : AreLacking units lacking) (formed : AllByRecursion IsWellFormed units)
        (know : (id : Bytes) (had : IsHad units lacking id) → listed (unit_name had.u) ≡ true → has_unit index id (unit_name had.u) ≡ true) where
      one-unit : AllByRecursion IsNeeding units → (i : ℕ) (u : Unit) → slice_get units i ≡ Some u → IsUnmarked lacking i → same_text (unit_name u) name ≡ true → IsEntryOf env index false name (unit_entry units u)
      one-unit needing i u at clear is =
          let all = all-listed listed (needed_names units u) (each-at IsNeeding units i u needing at is) in
          unit-is env index name units u (each-at IsWellFormed units i u formed at) ((bytes_decides (unit_name u) name).0 is)
          (know-all units lacking index listed know u.record_of.depends (needs-had units lacking lacks i u at clear) all)

      pub each-unit : AllByRecursion Listed (needed_by units name) → AllByRecursion (IsEntryOf env index false name) sorted
      each-unit all =
          each-in-order is_unit_below (IsEntryOf env index false name) named
          (each-passed (is_of name) (IsEntryOf env index false name) (unit_entries lacking units)
          (each-map (λ e. is_of name e ≡ true → IsEntryOf env index false name e) (unit_entry units) (unmarked lacking units)
          (each-unmarked (λ u. is_of name (unit_entry units u) ≡ true → IsEntryOf env index false name (unit_entry units u)) lacking units (one-unit (each-needing all)))))
