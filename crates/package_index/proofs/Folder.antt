-- A folder has at most one outcome: its index or its first refusal.
use Rattle.std.proofs.Common.{◌≡◌, ℕ, Bool, List, map, Result, Ok, Err, sym, ◌∙◌, ap, subst}
use Rattle.std.specs.Prelude.{flat_map}
use Rattle.plan_types.specs.declared.condition.Env.{Env}
use Rattle.plan_types.specs.declared.dependency.Named.{Named}
use Rattle.plan_types.specs.declared.index.Index.{Index}
use Rattle.plan_types.specs.declared.refusal.Refusal.{Refusal}
use Rattle.outside_folder.specs.Files.{Bytes, Files}
use Rattle.index_files.specs.Closure.{Ground, IsVisit, IsWhole, Visit, found_of}
use Rattle.index_files.specs.File.{count_all, size_all}
use Rattle.index_files.specs.InTurn.{GoesOn}
use Rattle.index_files.specs.Readings.{AreIndexed, AreRead}
use Rattle.index_files.specs.Units.{ReadsUnits, record_files}
use Rattle.index_files.specs.declared.closure.FoundName.{FoundName}
use Rattle.index_files.specs.declared.local.Local.{Local}
use Rattle.plan_types.specs.declared.index.Places.{Places}
use Rattle.index_files.specs.declared.readings.Readings.{Readings}
use Rattle.index_files.specs.declared.unit.Unit.{Unit}
use Rattle.index_assembly.specs.Entries.{local_entries, unit_entries}
use Rattle.index_assembly.specs.Folder.{Gathers, IsFolderIndex}
use Rattle.index_assembly.specs.Index.{IsIndexOf, index_of, warnings_of}
use Rattle.package_index.proofs.Closures.{never-beyond, one-closure}
use Rattle.package_index.proofs.OneEntries.{one-packages, one-skipped}
use Rattle.package_index.proofs.OneLacking.{one-lacking}
use Rattle.package_index.proofs.Outcomes.{HasOneRecord, HasOneSource, one-locals, one-units}

module _ (one_source : HasOneSource) (extra : List Named) where
  module _ (ground : Ground) (files : Files) (count size : ℕ) where
    abbrev reading : List Visit → Readings
    reading visits = record { locals = ground.locals; units = ground.units; found = map found_of visits }

    reading-is : (readings : Readings) (h : AreRead ground count size files readings) → readings ≡ reading h.found.visits
    reading-is readings h = λ i. record { locals = h.locals i; units = h.units i; found = h.found.found_is i }

    one-index-of : (a b : List FoundName) (found : IsWhole ground count size files a) (other : IsWhole ground count size files b) (lacking : List Bool)
        → index_of extra (reading found.visits) lacking ≡ index_of extra (reading other.visits) lacking
    one-index-of a b found other lacking =
        let left = one-closure one_source ground files found.visits other.visits found.closure other.closure in
        let once = found.closure.once in
        let packages = one-packages extra (local_entries ground.locals) (unit_entries lacking ground.units) (IsVisit ground files) found.visits other.visits left found.closure.read once in
        let skipped = one-skipped ground files found.visits other.visits left found.closure.read once in
        λ i. record { packages = packages i; skipped = skipped i; warnings = flat_map warnings_of ground.locals }

    one-of-readings : (r s : Readings) (a b : Index) → AreRead ground count size files r → AreRead ground count size files s → IsIndexOf extra r a → IsIndexOf extra s b → a ≡ b
    one-of-readings r s a b h k p q =
        let u = subst (λ readings. IsIndexOf extra readings a) (reading-is r h) p in
        let v = subst (λ readings. IsIndexOf extra readings b) (reading-is s k) q in
        u.index_is ∙ ap (index_of extra (reading h.found.visits)) (one-lacking ground.units u.lacking v.lacking u.lacks v.lacks)
        ∙ one-index-of r.found s.found h.found k.found v.lacking ∙ sym v.index_is

    one-indexed : (r s : Result Readings Refusal) (a b : Result Index Refusal) → AreIndexed ground count size files r → AreIndexed ground count size files s
        → Gathers extra r a → Gathers extra s b → a ≡ b
    one-indexed (Ok r) (Ok s) a b h k p q = p.2 ∙ ap Ok (one-of-readings r s p.0 q.0 h k p.1 q.1) ∙ sym q.2
    one-indexed (Ok r) (Err e) a b h k p q = never-beyond one_source ground files count size k.beyond h.found.visits h.found.closure h.found.few
    one-indexed (Err e) (Ok s) a b h k p q = never-beyond one_source ground files count size h.beyond k.found.visits k.found.closure k.found.few
    one-indexed (Err e) (Err f) a b h k p q = p ∙ ap Err (h.refusal_is ∙ sym k.refusal_is) ∙ sym q

  -- readings refused alike have the same outcome
  one-refused : (refusal : Refusal) (r s : Result Readings Refusal) (a b : Result Index Refusal) → r ≡ Err refusal → s ≡ Err refusal → Gathers extra r a → Gathers extra s b → a ≡ b
  one-refused refusal r s a b h k p q =
      let u : a ≡ Err refusal = subst (λ readings. Gathers extra readings a) h p in
      let v : b ≡ Err refusal = subst (λ readings. Gathers extra readings b) k q in
      u ∙ sym v

  module _ (one_record : HasOneRecord) (env : Env) (places : Places) (paths : List Bytes) (files : Files) where
    abbrev IndexedAs : List Local → Result Readings Refusal → List Unit → Type 0
    IndexedAs locals outcome units =
        let records = record_files places files in
        AreIndexed (record { env = env; places = places; locals = locals; units = units; extra = extra }) (count_all records) (size_all records) files outcome

    one-behind-units : (locals : List Local) (units : Result (List Unit) Refusal) (r s : Result Readings Refusal) (a b : Result Index Refusal)
        → GoesOn units (IndexedAs locals r) r → GoesOn units (IndexedAs locals s) s → Gathers extra r a → Gathers extra s b → a ≡ b
    one-behind-units locals (Ok units) r s a b h k p q =
        let records = record_files places files in
        one-indexed (record { env = env; places = places; locals = locals; units = units; extra = extra }) files (count_all records) (size_all records) r s a b h k p q
    one-behind-units locals (Err refusal) r s a b h k p q = one-refused refusal r s a b h k p q

    abbrev UnitsAs : Result Readings Refusal → List Local → Type 0
    UnitsAs outcome locals = (units : Result (List Unit) Refusal) × ReadsUnits places files units × GoesOn units (IndexedAs locals outcome) outcome

    one-behind-locals : (locals : Result (List Local) Refusal) (r s : Result Readings Refusal) (a b : Result Index Refusal)
        → GoesOn locals (UnitsAs r) r → GoesOn locals (UnitsAs s) s → Gathers extra r a → Gathers extra s b → a ≡ b
    one-behind-locals (Ok locals) r s a b h k p q =
        let units = one-units one_record places files k.0 h.0 k.1 h.1 in
        one-behind-units locals h.0 r s a b h.2 (subst (λ us. GoesOn us (IndexedAs locals s) s) units k.2) p q
    one-behind-locals (Err refusal) r s a b h k p q = one-refused refusal r s a b h k p q

    pub one-folder-index : (a b : Result Index Refusal) → IsFolderIndex env places extra paths files a → IsFolderIndex env places extra paths files b → a ≡ b
    one-folder-index a b h k =
        let locals = one-locals one_source env files paths k.1.0 h.1.0 k.1.1 h.1.1 in
        one-behind-locals h.1.0 h.0 k.0 a b h.1.2 (subst (λ ls. GoesOn ls (UnitsAs k.0) k.0) locals k.1.2) h.2 k.2
