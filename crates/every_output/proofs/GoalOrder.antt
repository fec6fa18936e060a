-- The packages of a folder's index are in goal order, since each name was read once.
use Rattle.std.proofs.Common.{◌≡◌, ℕ, Bool, List, [], ◌∷◌, ◌++◌, map, Result, Ok, Err, refl, sym, ap, ◌∙◌, subst}
use Rattle.std.specs.List.{IsDistinct}
use Rattle.plan_types.specs.Bytes.{same_text}
use Rattle.plan_types.specs.declared.condition.Env.{Env}
use Rattle.plan_types.specs.declared.dependency.Named.{Named}
use Rattle.plan_types.specs.declared.index.Entry.{Entry}
use Rattle.plan_types.specs.declared.index.Index.{Index}
use Rattle.plan_types.specs.declared.index.Places.{Places}
use Rattle.plan_types.specs.declared.refusal.Refusal.{Refusal}
use Rattle.qualified_goals.specs.Names.{AreInGoalOrder, package_names}
use Rattle.outside_folder.specs.Files.{Bytes, Files}
use Rattle.index_files.specs.Closure.{Ground, Visit, found_of, names_of}
use Rattle.index_files.specs.File.{count_all, size_all}
use Rattle.index_files.specs.InTurn.{GoesOn}
use Rattle.index_files.specs.Readings.{AreIndexed, AreRead, AreReadings}
use Rattle.index_files.specs.Units.{ReadsUnits, record_files}
use Rattle.index_files.specs.declared.closure.FoundName.{FoundName}
use Rattle.index_files.specs.declared.local.Local.{Local}
use Rattle.index_files.specs.declared.readings.Readings.{Readings}
use Rattle.index_files.specs.declared.unit.Unit.{Unit}
use Rattle.index_assembly.specs.Entries.{entries_named, is_unit_below, local_entries, release_entries, unit_entries}
use Rattle.index_assembly.specs.Folder.{Gathers, IsFolderIndex}
use Rattle.index_assembly.specs.Index.{IsIndexOf, is_extra, package_from, package_of}
use Rattle.index_assembly.specs.Order.{in_order}
use Rattle.every_output.proofs.Sorted.{sorted_in_goal_order}

-- the names that were found
abbrev found_names : List FoundName → List Bytes
found_names found = map (λ (f : FoundName). f.name) found

-- ---- each name was read once

visited_names : (visits : List Visit) → found_names (map found_of visits) ≡ names_of visits
visited_names [] = refl
visited_names (v ∷ visits) = ap (λ names. v.name ∷ names) (visited_names visits)

names_once : (ground : Ground) (count size : ℕ) (files : Files) (readings : Readings) → AreRead ground count size files readings
    → IsDistinct same_text (found_names readings.found)
names_once ground count size files readings h =
    let whole = h.found in
    subst (IsDistinct same_text) (sym (ap found_names whole.found_is ∙ visited_names whole.visits)) whole.closure.once

module _ (env : Env) (places : Places) (extra : List Named) (paths : List Bytes) (files : Files) (readings : Readings) where
  abbrev Once : Type 0
  Once = IsDistinct same_text (found_names readings.found)

  abbrev ground_with : List Local → List Unit → Ground
  ground_with locals units = record { env = env; places = places; locals = locals; units = units; extra = extra }

  abbrev IndexedAs : List Local → List Unit → Type 0
  IndexedAs locals units =
      AreIndexed (ground_with locals units) (count_all (record_files places files)) (size_all (record_files places files)) files (Ok readings)

  abbrev UnitsAs : List Local → Type 0
  UnitsAs locals = (units : Result (List Unit) Refusal) × ReadsUnits places files units × GoesOn units (IndexedAs locals) (Ok readings)

  behind_units : (locals : List Local) (units : Result (List Unit) Refusal) → GoesOn units (IndexedAs locals) (Ok readings) → Once
  behind_units locals (Ok units) h = names_once (ground_with locals units) (count_all (record_files places files)) (size_all (record_files places files)) files readings h
  behind_units locals (Err refusal) h = absurd (cc h)

  behind_locals : (locals : Result (List Local) Refusal) → GoesOn locals UnitsAs (Ok readings) → Once
  behind_locals (Ok locals) h = behind_units locals h.0 h.2
  behind_locals (Err refusal) h = absurd (cc h)

  read_once : AreReadings env places extra paths files (Ok readings) → Once
  read_once h = behind_locals h.0 h.2

-- ---- the packages made of what was read

from_name : (name : Bytes) (asked : Bool) (own others : List Entry) → (package_from name asked own others).name ≡ name
from_name name asked [] others = refl
from_name name asked (e ∷ own) others = refl

of_names : (extra : List Named) (locals units : List Entry) (found : List FoundName) → package_names (map (package_of extra locals units) found) ≡ found_names found
of_names extra locals units [] = refl
of_names extra locals units (f ∷ found) =
    let here = from_name f.name (is_extra extra f.name) (entries_named f.name locals) (release_entries f.releases ++ in_order is_unit_below (entries_named f.name units)) in
    λ i. here i ∷ of_names extra locals units found i

index_in_goal_order : (extra : List Named) (readings : Readings) (index : Index) → IsIndexOf extra readings index → IsDistinct same_text (found_names readings.found) → AreInGoalOrder index.packages
index_in_goal_order extra readings index made once =
    let locals = local_entries readings.locals in
    let units = unit_entries made.lacking readings.units in
    let packages = map (package_of extra locals units) readings.found in
    let ordered = sorted_in_goal_order packages (subst (IsDistinct same_text) (sym (of_names extra locals units readings.found)) once) in
    subst (λ (i : Index). AreInGoalOrder i.packages) (sym made.index_is) ordered

module _ (env : Env) (places : Places) (extra : List Named) (paths : List Bytes) (files : Files) (index : Index) where
  gathered_in_goal_order : (readings : Result Readings Refusal) → AreReadings env places extra paths files readings → Gathers extra readings (Ok index) → AreInGoalOrder index.packages
  gathered_in_goal_order (Ok readings) h k =
      let same : index ≡ k.0 = cc k.2 in
      subst (λ (i : Index). AreInGoalOrder i.packages) (sym same) (index_in_goal_order extra readings k.0 k.1 (read_once env places extra paths files readings h))
  gathered_in_goal_order (Err refusal) h k = absurd (cc k)

  pub folder_in_goal_order : IsFolderIndex env places extra paths files (Ok index) → AreInGoalOrder index.packages
  folder_in_goal_order h = gathered_in_goal_order h.0 h.1 h.2
