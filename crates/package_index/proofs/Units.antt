-- A unit without a mark needs only units that have records and no mark.
use Rattle.std.proofs.Common.{◌≡◌, ℕ, zero, suc, Bool, true, false, List, [], ◌∷◌, ◌++◌, map, flat_map, Option, Some, None, refl, sym, ap, ◌∙◌, subst}
use Rattle.std.specs.Prelude.{slice_index_or}
use Rattle.std.specs.List.{AllByRecursion, Contains, list_any, slice_get}
use Rattle.std.proofs.lemmas.Bool.{false≢true, false_from_ne_true, or_parts}
use Rattle.std.proofs.lemmas.List.Elements.{All-contains_itself, recursion_from_All}
use Rattle.std.proofs.lemmas.Option.{none-some, same_Some}
use Rattle.broken_units.specs.Leads.{ReachesMarked, here, over}
use Rattle.outside_folder.specs.Files.{Bytes}
use Rattle.index_files.specs.Units.{place_of, unit_id}
use Rattle.index_files.specs.declared.unit.Unit.{Unit}
use Rattle.index_assembly.specs.Lacks.{AreLacking, is_none, lacks_one, needed_places, places_in}
use Rattle.common_laws.specs.Each.{each-then}
use Rattle.package_index.proofs.Marks.{IsUnmarked}
use Rattle.package_index.proofs.ByName.{found-at}
use Rattle.plan_types.specs.Bytes.{same_text}

-- the image of an element at a place
map-at : {A B : Type 0} (f : A → B) (xs : List A) (i : ℕ) (x : A) (d : B) → slice_get xs i ≡ Some x → slice_index_or (map f xs) i d ≡ f x
map-at f [] i x d at = absurd (none-some x at)
map-at f (y ∷ xs) zero x d at = ap f (same_Some y x at)
map-at f (y ∷ xs) (suc i) x d at = map-at f xs i x d at

each-contained : {A : Type 0} (P : A → Type 0) (xs : List A) → ((x : A) → Contains xs x → P x) → AllByRecursion P xs
each-contained P xs f = each-then (Contains xs) P xs f (recursion_from_All (Contains xs) xs (All-contains_itself xs))

module _ (units : List Unit) (lacking : List Bool) where
  -- the unit of an id, without a mark
  pub record IsHad (id : Bytes) : Type 0 where
    pub place : ℕ
    pub u : Unit
    pub placed : place_of units id ≡ Some place
    pub at : slice_get units place ≡ Some u
    pub same_id : same_text id (unit_id u) ≡ true
    pub unmarked : IsUnmarked lacking place

  had-at : (id : Bytes) (rest : List ℕ) (place : Option ℕ) → place_of units id ≡ place → is_none place ≡ false → AllByRecursion (IsUnmarked lacking) (places_in place ++ rest) → IsHad id
  had-at id rest None placed there unmarked = absurd (false≢true (sym there))
  had-at id rest (Some place) placed there unmarked =
      let found = found-at unit_id (same_text id) units place placed in
      record { place = place; u = found.0; placed = placed; at = found.1; same_id = found.2; unmarked = unmarked.0 }

  rest-at : (rest : List ℕ) (place : Option ℕ) → AllByRecursion (IsUnmarked lacking) (places_in place ++ rest) → AllByRecursion (IsUnmarked lacking) rest
  rest-at rest None unmarked = unmarked
  rest-at rest (Some place) unmarked = unmarked.1

  abbrev places_of : List Bytes → List ℕ
  places_of ids = flat_map (λ id. places_in (place_of units id)) ids

  each-had : (ids : List Bytes) → list_any (λ id. is_none (place_of units id)) ids ≡ false → AllByRecursion (IsUnmarked lacking) (places_of ids) → AllByRecursion IsHad ids
  each-had [] there unmarked = tt
  each-had (id ∷ ids) there unmarked =
      let parts = or_parts (is_none (place_of units id)) (list_any (λ i. is_none (place_of units i)) ids) there in
      (had-at id (places_of ids) (place_of units id) refl parts.0 unmarked, each-had ids parts.1 (rest-at (places_of ids) (place_of units id) unmarked))

  module _ (lacks : AreLacking units lacking) where
    abbrev needs : List (List ℕ)
    needs = map (needed_places units) units

    abbrev lack_one : List Bool
    lack_one = map (lacks_one units) units

    no-way : (i : ℕ) → IsUnmarked lacking i → ReachesMarked needs lack_one i → ⊥
    no-way i clear way = false≢true (sym clear ∙ (lacks.leads i).1 way)

    none-lacks : (i : ℕ) (u : Unit) → slice_get units i ≡ Some u → IsUnmarked lacking i → lacks_one units u ≡ false
    none-lacks i u at clear = false_from_ne_true (lacks_one units u) (λ lacks. no-way i clear (here (map-at (lacks_one units) units i u false at ∙ lacks)))

    next-unmarked : (i : ℕ) (u : Unit) → slice_get units i ≡ Some u → IsUnmarked lacking i → (v : ℕ) → Contains (needed_places units u) v → IsUnmarked lacking v
    next-unmarked i u at clear v needed =
        false_from_ne_true (slice_index_or lacking v false) (λ marked.
        no-way i clear (over v (subst (λ places. Contains places v) (sym (map-at (needed_places units) units i u [] at)) needed) ((lacks.leads v).0 marked)))

    pub needs-had : (i : ℕ) (u : Unit) → slice_get units i ≡ Some u → IsUnmarked lacking i → AllByRecursion IsHad u.record_of.depends
    needs-had i u at clear = each-had u.record_of.depends (none-lacks i u at clear) (each-contained (IsUnmarked lacking) (needed_places units u) (next-unmarked i u at clear))
