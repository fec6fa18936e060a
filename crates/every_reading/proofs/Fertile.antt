-- A name that mentions another one is that of a local package or a unit record, or has a file.
use Rattle.std.proofs.Common.{◌≡◌, ◌⊎◌, inl, inr, ◌≤◌, ℕ, zero, suc, Bool, true, false, ◌||◌, if◌then◌else◌, List, [], ◌∷◌, ◌++◌, map, refl, sym, ap, ◌∙◌, arith}
use Rattle.std.specs.Prelude.{option_and_then, slice_get}
use Rattle.std.proofs.lemmas.Bool.{false≢true, or_left}
use Rattle.std.proofs.lemmas.Cmp.{nat_list_eq_equiv}
use Rattle.std.proofs.lemmas.List.Folds.{list_any-append}
use Rattle.outside_folder.specs.Files.{Bytes, Files}
use Rattle.plan_types.specs.Bytes.{same_text}
use Rattle.index_files.specs.Closure.{Ground, IsVisit, ReadsAs, Visit, asked_by_local, asked_locally, found_of, is_local, mentioned, visited_files}
use Rattle.index_files.specs.File.{count_all}
use Rattle.index_files.specs.Locals.{local_names}
use Rattle.index_files.specs.Names.{is_listed}
use Rattle.index_files.specs.Releases.{asked_in}
use Rattle.index_files.specs.Units.{needed_among, needed_names, unit_name}
use Rattle.index_files.specs.declared.local.Local.{Local}
use Rattle.index_files.specs.declared.unit.Unit.{Unit}
use Rattle.every_reading.proofs.Lists.{no_position}
use Rattle.every_reading.proofs.Visits.{none_read}

-- the names of local packages and unit records
abbrev pub known_names : Ground → List Bytes
known_names ground = local_names ground.locals ++ map unit_name ground.units

not_local : (locals : List Local) (name : Bytes) → is_listed (local_names locals) name ≡ false → asked_locally locals name ≡ []
not_local locals name h = ap (λ place. asked_by_local (option_and_then (slice_get locals) place)) (no_position (same_text name) (local_names locals) h)

not_needed : (units : List Unit) (name : Bytes) (some : List Unit) → is_listed (map unit_name some) name ≡ false → needed_among units name some ≡ []
not_needed units name [] h = refl
not_needed units name (u ∷ some) h = by (same_text name (unit_name u)) refl (not_needed units name some)
  where
    by : (t : Bool) → same_text name (unit_name u) ≡ t → (is_listed (map unit_name some) name ≡ false → needed_among units name some ≡ []) → needed_among units name (u ∷ some) ≡ []
    by true q none = absurd (false≢true (sym h ∙ or_left (same_text name (unit_name u)) (is_listed (map unit_name some) name) q))
    by false q none =
        let other : same_text (unit_name u) name ≡ false = nat_list_eq_equiv.symm (unit_name u) name ∙ q in
        ap (λ b. (if b then needed_names units u else []) ++ needed_among units name some) other
        ∙ none (ap (λ b. b || is_listed (map unit_name some) name) (sym q) ∙ h)

module _ (ground : Ground) (files : Files) (v : Visit) where
  nothing_by : (t : Bool) → ReadsAs ground files v t → count_all (visited_files ground files v) ≡ 0 → v.releases ≡ []
  nothing_by true h none = h.no_releases
  nothing_by false h none = none_read ground.env v.name v.dirs (visited_files ground files v) v.releases none h.releases

  barren : IsVisit ground files v → is_listed (known_names ground) v.name ≡ false → count_all (visited_files ground files v) ≡ 0 → mentioned ground (found_of v) ≡ []
  barren visit unknown none =
      let both = sym (list_any-append (same_text v.name) (local_names ground.locals) (map unit_name ground.units)) ∙ unknown in
      let local = left_false (is_listed (local_names ground.locals) v.name) (is_listed (map unit_name ground.units) v.name) both in
      let unit = right_false (is_listed (local_names ground.locals) v.name) (is_listed (map unit_name ground.units) v.name) both in
      let releases = nothing_by (is_local ground v.name) visit none in
      λ i. not_local ground.locals v.name local i ++ not_needed ground.units v.name ground.units unit i ++ asked_in (releases i)
    where
      left_false : (a b : Bool) → a || b ≡ false → a ≡ false
      left_false true b h = h
      left_false false b h = refl

      right_false : (a b : Bool) → a || b ≡ false → b ≡ false
      right_false true b h = absurd (false≢true (sym h))
      right_false false b h = h

  pub fertile : IsVisit ground files v → (name : Bytes) (names : List Bytes) → mentioned ground (found_of v) ≡ name ∷ names
      → (is_listed (known_names ground) v.name ≡ true) ⊎ (1 ≤ count_all (visited_files ground files v))
  fertile visit name names some = by_known (is_listed (known_names ground) v.name) refl
    where
      by_count : is_listed (known_names ground) v.name ≡ false → (n : ℕ) → count_all (visited_files ground files v) ≡ n
          → (is_listed (known_names ground) v.name ≡ true) ⊎ (1 ≤ count_all (visited_files ground files v))
      by_count unknown zero e = absurd (cc (sym some ∙ barren visit unknown e))
      by_count unknown (suc n) e = inr (omega (arith, e))

      by_known : (t : Bool) → is_listed (known_names ground) v.name ≡ t → (is_listed (known_names ground) v.name ≡ true) ⊎ (1 ≤ count_all (visited_files ground files v))
      by_known true q = inl q
      by_known false q = by_count q (count_all (visited_files ground files v)) refl
