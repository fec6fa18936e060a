-- Marks on places, and the tree whose leaves they are.
use Rattle.std.specs.Prelude.{◌≡◌, ◌<◌, ◌≤◌, ◌+◌, ◌*◌, ◌^◌, ◌||◌, ℕ, Bool, false, List, Option, MatchOption, length, slice_index_or, slice_set}
use Rattle.common_laws.specs.Graphs.{IsMarked}

-- no place is marked
abbrev pub NoneMarked : List Bool → Type 0
NoneMarked marks = (place : ℕ) → IsMarked marks place → ⊥

-- the least marked place
pub record IsLeastMarked (marks : List Bool) (place : ℕ) : Type 0 where
  pub marked : IsMarked marks place
  pub least : (other : ℕ) → IsMarked marks other → place ≤ other

-- a power of two
abbrev pub IsPower : ℕ → Type 0
IsPower width = (height : ℕ) × (2 ^ height ≡ width)

-- the node at `at` is marked iff one of its children is
abbrev pub IsJoined : List Bool → ℕ → Type 0
IsJoined tree at = slice_index_or tree at false ≡ slice_index_or tree (2 * at) false || slice_index_or tree (2 * at + 1) false

-- a tree with width leaves, its root at 1
pub record IsTree (width : ℕ) (tree : List Bool) : Type 0 where
  pub power : IsPower width
  pub count : length tree ≡ 2 * width
  pub small : 2 * width < 2 ^ 64
  pub joined : (at : ℕ) → 1 ≤ at → at < width → IsJoined tree at

-- the least mark is cleared, if there is one
abbrev pub TakesLeast : List Bool → List Bool → Option ℕ → Type 0
TakesLeast old new taken = MatchOption taken (NoneMarked old × (new ≡ old)) (λ place. IsLeastMarked old place × (new ≡ slice_set old place false))
