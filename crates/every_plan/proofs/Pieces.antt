-- The pieces of a plan are places of components of the chosen instance.
use Rattle.std.proofs.Common.{◌<◌, ⊎_elim, ℕ, suc, ◌+◌, Bool, true, false, ◌&&◌, if◌then◌else◌, List, [], ◌∷◌, length, map, Option, Some, None, subst, arith}
use Rattle.std.specs.List.{Contains}
use Rattle.common_laws.specs.Lists.{contains-cases, contains-head, contains-map, contains-none, contains-tail, map-contains}
use Rattle.plan_types.specs.declared.dependency.Dep.{Dep}
use Rattle.plan_types.specs.declared.dependency.LibName.TheVariants.{Main}
use Rattle.plan_types.specs.declared.description.Component.{Component}
use Rattle.plan_types.specs.declared.index.Body.{Body}
use Rattle.plan_types.specs.declared.index.Body.TheVariants.{Source, Installed}
use Rattle.flatten.specs.OwnComponents.{is_executable, is_lib}
use Rattle.qualified_goals.specs.declared.variable.Qual.TheVariants.{Top}
use Rattle.solver_index.specs.Places.{rising}
use Rattle.cabal_problem.specs.Laws.{rising-has}
use Rattle.plan_components.specs.declared.node.Piece.{Piece}
use Rattle.plan_components.specs.declared.node.Piece.TheVariants.{Whole, One}
use Rattle.plan_components.specs.Chosen.{Selection, chosen_flags}
use Rattle.plan_components.specs.Known.{components_by}
use Rattle.plan_components.specs.Needs.{meant_pieces, means}
use Rattle.plan_components.specs.Wanted.{as_pieces, first_pieces, first_places, is_wanted_under, or_else, places, places_from}

-- ---- places of components

from-low : (k : ℕ) (test : Component → Bool) (components : List Component) (place : ℕ) → Contains (places_from k test components) place → place < k + length components
from-low k test [] place c = absurd (contains-none place c)
from-low k test (component ∷ components) place c =
    let rest = places_from (suc k) test components in
    let behind : Contains rest place → place < k + length (component ∷ components) = λ r. let low = from-low (suc k) test components place r in omega (arith, low) in
    elim (test component) as (λ b. Contains (if b then k ∷ rest else rest) place → place < k + length (component ∷ components)) [
      | true ↦ λ h. ⊎_elim (λ same. omega (arith, same)) behind (contains-cases k rest place h)
      | false ↦ behind
    ] c

-- all these places are below a length
abbrev AreLow : ℕ → List ℕ → Type 0
AreLow count ks = (k : ℕ) → Contains ks k → k < count

places-low : (test : Component → Bool) (components : List Component) → AreLow (length components) (places test components)
places-low test components place c = let low = from-low 0 test components place c in omega (arith, low)

or-else-low : (count : ℕ) (ks others : List ℕ) → AreLow count ks → AreLow count others → AreLow count (or_else ks others)
or-else-low count [] others low other k c = other k c
or-else-low count (x ∷ ks) others low other k c = low k c

first-low : (local : Bool) (wanted : Component → Bool) (components : List Component) → AreLow (length components) (first_places local wanted components)
first-low true wanted components k c = places-low wanted components k c
first-low false wanted components k c =
    let main : Component → Bool = λ x. is_lib x Main && wanted x in
    let runs : Component → Bool = λ x. is_executable x.kind && wanted x in
    or-else-low (length components) (places main components) (places runs components) (places-low main components) (places-low runs components) k c

-- ---- pieces

-- all pieces that a body may have
abbrev pub pieces_in : Option Body → List Piece
pieces_in body = Whole ∷ map One (rising (length (components_by body)))

module _ (body : Option Body) where
  pub whole-in : (piece : Piece) → Contains (Whole ∷ []) piece → Contains (pieces_in body) piece
  whole-in piece c = ⊎_elim
      (λ same. subst (Contains (pieces_in body)) same (contains-head Whole (map One (rising (length (components_by body))))))
      (λ none. absurd (contains-none piece none))
      (contains-cases Whole [] piece c)

  one-in : (place : ℕ) → place < length (components_by body) → Contains (pieces_in body) (One place)
  one-in place low =
      let below = rising (length (components_by body)) in
      contains-tail Whole (map One below) (One place) (map-contains One below place (rising-has (length (components_by body)) place low))

  pieces-in : (custom : Bool) (ks : List ℕ) → AreLow (length (components_by body)) ks → (piece : Piece) → Contains (as_pieces custom ks) piece → Contains (pieces_in body) piece
  pieces-in false ks low piece c =
      let found = contains-map One ks piece c in
      subst (Contains (pieces_in body)) found.2 (one-in found.0 (low found.0 found.1))
  pieces-in true [] low piece c = absurd (contains-none piece c)
  pieces-in true (k ∷ ks) low piece c = whole-in piece c

-- the pieces that a dependency asks for
pub asked-in : (dep : Dep) (body : Option Body) (piece : Piece) → Contains (meant_pieces dep body) piece → Contains (pieces_in body) piece
asked-in dep None piece c = absurd (contains-none piece c)
asked-in dep (Some (Installed record_of needs)) piece c = whole-in (Some (Installed record_of needs)) piece c
asked-in dep (Some (Source source)) piece c =
    let d = source.description in
    pieces-in (Some (Source source)) d.custom (places (means dep.kind dep) d.components) (places-low (means dep.kind dep) d.components) piece c

-- the first pieces of a plan
pub first-in : (selection : Selection) (local : Bool) (p : ℕ) (body : Option Body) (piece : Piece) → Contains (first_pieces selection local p body) piece → Contains (pieces_in body) piece
first-in selection local p None piece c = absurd (contains-none piece c)
first-in selection local p (Some (Installed record_of needs)) piece c = whole-in (Some (Installed record_of needs)) piece c
first-in selection local p (Some (Source source)) piece c =
    let d = source.description in
    let wanted = is_wanted_under selection Top p (chosen_flags selection Top p d) in
    pieces-in (Some (Source source)) d.custom (first_places local wanted d.components) (first-low local wanted d.components) piece c
