-- The places of the mentions of one variable, which are a chain of cells.
use Rattle.std.specs.Prelude.{ℕ, ◌<◌, List, [], ◌∷◌, length, map, Option, Some, None, IsTrue}
use Rattle.goal_links.specs.Ring.{AreOnce}
use Rattle.goal_links.specs.Row.{has_node, behind}
use Rattle.goal_links.specs.Links.{Entries, chain_with}
use Rattle.goal_links.specs.Mentions.{place_at}

-- a cell and those behind it in its chain
abbrev pub cells_from : Entries → Option ℕ → List ℕ
cells_from s None = []
cells_from s (Some cell) = cell ∷ behind (Some cell) (chain_with s cell)

-- the places of these cells
abbrev pub places_from : Entries → Option ℕ → List ℕ
places_from s at = map (place_at s.cells) (cells_from s at)

-- a cell is in its chain, and the chain has no cell twice
pub record IsInChain (s : Entries) (cell : ℕ) : Type 0 where
  pub within : cell < length s.cells
  pub linked : IsTrue (has_node (chain_with s cell) cell)
  pub once : AreOnce None (chain_with s cell)
