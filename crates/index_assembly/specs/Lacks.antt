-- Units that are left out, since a unit without a record is reached from them.
use Rattle.std.specs.Prelude.{◌≡◌, ◌↔◌, ℕ, Bool, true, false, List, [], ◌∷◌, length, map, flat_map, Option, Some, None}
use Rattle.std.specs.List.{list_any}
use Rattle.broken_units.specs.Leads.{ReachesMarked}
use Rattle.common_laws.specs.Graphs.{IsMarked}
use Rattle.index_files.specs.Units.{place_of}
use Rattle.index_files.specs.declared.unit.Unit.{Unit}

-- the place as a list
abbrev pub places_in : Option ℕ → List ℕ
places_in None = []
places_in (Some place) = place ∷ []

-- the places of the units that a unit needs, except those without a record
abbrev pub needed_places : List Unit → Unit → List ℕ
needed_places units u = flat_map (λ id. places_in (place_of units id)) u.record_of.depends

-- whether there is no place
abbrev pub is_none : Option ℕ → Bool
is_none None = true
is_none (Some place) = false

-- whether a unit that it needs has no record
abbrev pub lacks_one : List Unit → Unit → Bool
lacks_one units u = list_any (λ id. is_none (place_of units id)) u.record_of.depends

-- A unit is marked iff a unit that needs one without a record is reached from it, itself included.
pub record AreLacking (units : List Unit) (lacking : List Bool) : Type 0 where
  pub length_is : length lacking ≡ length units
  pub leads : (i : ℕ) → IsMarked lacking i ↔ ReachesMarked (map (needed_places units) units) (map (lacks_one units) units) i
