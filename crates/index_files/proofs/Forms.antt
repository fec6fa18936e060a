-- Properties of packages and units that are appended one by one.
use Rattle.std.proofs.Common.{◌≡◌, ℕ, true, List, [], ◌∷◌, ◌++◌, map, Option, Some, None, Result, Ok, Err, refl, sym, ◌∙◌, ap, subst}
use Rattle.std.specs.Prelude.{position}
use Rattle.std.specs.List.{AllByRecursion, IsDistinct, list_all}
use Rattle.package_declarations.proofs.FirstPlaces.{position-none}
use Rattle.description.specs.declared.fault_order.At.{At}
use Rattle.outside_folder.specs.Files.{Bytes}
use Rattle.plan_types.specs.declared.condition.Env.{Env}
use Rattle.plan_types.specs.declared.index.UnitRecord.{UnitRecord}
use Rattle.plan_types.specs.declared.refusal.Cause.{Cause}
use Rattle.plan_types.specs.declared.refusal.Cause.TheVariants.{DuplicateLocal, DuplicateUnit}
use Rattle.plan_types.specs.declared.refusal.Refusal.{Refusal}
use Rattle.plan_types.specs.declared.index.Source.{Source}
use Rattle.index_files.specs.InTurn.{GoesOn, InTurn}
use Rattle.index_files.specs.Locals.{AreLocals, FileComes, local_name, local_names, local_path, with_file}
use Rattle.index_files.specs.OnceEach.{unless_there}
use Rattle.index_files.specs.Readings.{AreFromFiles, IsFromFile}
use Rattle.index_files.specs.Units.{AreUnits, IsWellFormed, RecordComes, is_well_formed, place_of, unit_id, unit_ids, unit_path, with_record}
use Rattle.index_files.specs.declared.file.ReadFile.{ReadFile}
use Rattle.index_files.specs.declared.local.Local.{Local}
use Rattle.index_files.specs.declared.unit.Unit.{Unit}
use Rattle.common_laws.specs.Each.{each-append}
use Rattle.plan_types.specs.Bytes.{same_text}
use Rattle.std.specs.Cmp.Lexicographic.{nat_list_eq_equiv}
use Rattle.std.proofs.lemmas.Bool.{and_parts}
use Rattle.std.proofs.lemmas.List.{map-append}
use Rattle.std.proofs.lemmas.Map.Keys.{IsDistinct-push}

ok-or : {A : Type 0} → A → Result A Refusal → A
ok-or a (Ok x) = x
ok-or a (Err y) = a

same-ok : {A : Type 0} (a b : A) (r s : Result A Refusal) → r ≡ Ok a → s ≡ Ok b → r ≡ s → a ≡ b
unfolding ok-or
same-ok a b r s p q e = ap (ok-or a) (sym p ∙ e ∙ q)

not-err : {A : Type 0} (a : A) (r : Refusal) (s : Result A Refusal) → s ≡ Ok a → s ≡ Err r → ⊥
not-err a r s p q = let h = sym p ∙ q in cc h

distinct-keys : {X : Type 0} (key : X → Bytes) (xs : List X) (x : X) → IsDistinct same_text (map key xs) → position (same_text (key x)) (map key xs) ≡ None → IsDistinct same_text (map key (xs ++ x ∷ []))
distinct-keys key xs x h none = subst (IsDistinct same_text) (sym (map-append key xs (x ∷ []))) (IsDistinct-push nat_list_eq_equiv (map key xs) (key x) h (position-none (same_text (key x)) (map key xs) none))

-- an item that was accepted has a new key, and was appended
put-last : {X G : Type 0} (path_of : X → Bytes) (cause : Cause) (place : Option ℕ) (taken : List X) (x : X) (Rest : List X → Type 0) (all : List X)
    → (place ≡ None → Rest (taken ++ x ∷ []) → G) → GoesOn {T = List X} (unless_there path_of cause place taken x) Rest (Ok all) → G
put-last path_of cause None taken x Rest all go h = go refl h
put-last path_of cause (Some place) taken x Rest all go h = absurd (not-err all _ _ refl h)

-- ---- local packages

module _ (env : Env) where
  with-read : (taken : List Local) (file : ReadFile) (o : Result Source At) → AreFromFiles env taken → FileComes env file o
      → (Rest : List Local → Type 0) (ls : List Local) → ((next : List Local) → AreFromFiles env next → Rest next → AreFromFiles env ls) → GoesOn {T = List Local} (with_file taken file o) Rest (Ok ls) → AreFromFiles env ls
  with-read taken file (Ok source) a c Rest ls go h =
      let local : Local = record { path = file.path; source = source } in
      put-last local_path DuplicateLocal (position (same_text (local_name local)) (local_names taken)) taken local Rest ls
      (λ none. go (taken ++ local ∷ []) (record { once = distinct-keys local_name taken local a.once none; read = each-append (IsFromFile env) taken (local ∷ []) a.read ((file, c), tt) })) h
  with-read taken file (Err at) a c Rest ls go h = absurd (not-err ls _ _ refl h)

  from-files : (files : List ReadFile) (taken ls : List Local) → AreFromFiles env taken → InTurn (FileComes env) with_file taken files (Ok ls) → AreFromFiles env ls
  from-files [] taken ls a h = subst (AreFromFiles env) (sym (same-ok ls taken _ _ refl refl h)) a
  from-files (file ∷ files) taken ls a h =
      with-read taken file h.0 a h.1 (λ next. InTurn (FileComes env) with_file next files (Ok ls)) ls (λ next b k. from-files files next ls b k) h.2

  none-yet : AreFromFiles env []
  unfolding IsDistinct
  none-yet = record { once = tt; read = tt }

  pub locals-from-files : (files : List ReadFile) (ls : List Local) → AreLocals env files (Ok ls) → AreFromFiles env ls
  locals-from-files files ls h = from-files files [] ls none-yet h

-- ---- units

abbrev AreOnce : List Unit → Type 0
AreOnce us = IsDistinct same_text (unit_ids us)

one-record : (taken : List Unit) (file : ReadFile) (o : Result (Option UnitRecord) At) → AreOnce taken
    → (Rest : List Unit → Type 0) (us : List Unit) → ((next : List Unit) → AreOnce next → Rest next → AreOnce us) → GoesOn {T = List Unit} (with_record taken file o) Rest (Ok us) → AreOnce us
one-record taken file (Ok None) a Rest us go h = go taken a h
one-record taken file (Ok (Some r)) a Rest us go h =
    let u : Unit = record { path = file.path; record_of = r } in
    put-last unit_path DuplicateUnit (place_of taken (unit_id u)) taken u Rest us (λ none. go (taken ++ u ∷ []) (distinct-keys unit_id taken u a none)) h
one-record taken file (Err at) a Rest us go h = absurd (not-err us _ _ refl h)

from-records : (files : List ReadFile) (taken us : List Unit) → AreOnce taken → InTurn RecordComes with_record taken files (Ok us) → AreOnce us
from-records [] taken us a h = subst AreOnce (sym (same-ok us taken _ _ refl refl h)) a
from-records (file ∷ files) taken us a h = one-record taken file h.0 a (λ next. InTurn RecordComes with_record next files (Ok us)) us (λ next b k. from-records files next us b k) h.2

pub units-once : (files : List ReadFile) (us : List Unit) → AreUnits files (Ok us) → IsDistinct same_text (unit_ids us)
unfolding IsDistinct
units-once files us h = from-records files [] us tt h

pub all-formed : (us : List Unit) → list_all is_well_formed us ≡ true → AllByRecursion IsWellFormed us
all-formed [] h = tt
all-formed (u ∷ us) h =
    let here = (and_parts (is_well_formed u) (list_all is_well_formed us) h).0 in
    (record { name = (and_parts _ _ here).0; version = (and_parts _ _ here).1 }, all-formed us ((and_parts (is_well_formed u) (list_all is_well_formed us) h).1))
