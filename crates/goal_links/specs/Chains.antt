-- Chains of cells, one chain for each entry.
use Rattle.std.specs.Prelude.{◌≡◌, ℕ, ◌<◌, List, [], ◌∷◌, ◌++◌, length, map, slice_index_or, slice_set}
use Rattle.std.specs.List.{Contains}
use Rattle.goal_links.specs.declared.ring.RingNode.{RingNode}
use Rattle.goal_links.specs.declared.chains.Cell.{Cell}
use Rattle.goal_links.specs.Ring.{IsRing, ring_of, no_node}

-- chains as contracts see them
pub record Chained : Type 0 where
  pub cells : List Cell
  -- for each entry the cells of its chain, in order
  pub chains : List (List ℕ)

-- the cell for a number that no cell has
abbrev pub no_cell : Cell
no_cell = record { entry = 0; place = 0 }

-- the cell with a number
abbrev pub cell_at : List Cell → ℕ → Cell
cell_at cells n = slice_index_or cells n no_cell

-- the chain of an entry
abbrev pub chain_at : List (List ℕ) → ℕ → List ℕ
chain_at chains entry = slice_index_or chains entry []

-- the chain of a cell's entry
abbrev pub chain_with : Chained → ℕ → List ℕ
chain_with all cell = chain_at all.chains (cell_at all.cells cell).entry

-- a list without its last item
abbrev pub without_last : {X : Type 0} → List X → List X
without_last [] = []
without_last (x ∷ []) = []
without_last (x ∷ y ∷ xs) = x ∷ without_last (y ∷ xs)

-- one more entry, with an empty chain
abbrev pub with_chain : Chained → Chained
with_chain all = record all { chains = all.chains ++ [] ∷ [] }

-- one more cell
abbrev pub with_cell : Chained → Cell → Chained
with_cell all cell = record all { cells = all.cells ++ cell ∷ [] }

-- a cell replaced by another one
abbrev pub with_cell_at : Chained → ℕ → Cell → Chained
with_cell_at all n cell = record all { cells = slice_set all.cells n cell }

-- a cell appended to its chain
abbrev pub appended : Chained → ℕ → Chained
appended all cell = record all { chains = slice_set all.chains (cell_at all.cells cell).entry (chain_with all cell ++ cell ∷ []) }

-- the last cell of a chain removed
abbrev pub shortened : Chained → ℕ → Chained
shortened all cell = record all { chains = slice_set all.chains (cell_at all.cells cell).entry (without_last (chain_with all cell)) }

-- the ends of an entry's chain
abbrev pub ends_at : List RingNode → ℕ → RingNode
ends_at ends entry = slice_index_or ends entry no_node

-- the chains with these ends and nodes
abbrev pub chains_of : List RingNode → List RingNode → List (List ℕ)
chains_of ends nodes = map (λ e. ring_of e nodes) ends

-- the invariant of ends, nodes and cells
pub record AreChains (ends nodes : List RingNode) (cells : List Cell) : Type 0 where
  pub paired : length cells ≡ length nodes
  pub rings : (entry : ℕ) → entry < length ends → IsRing (ends_at ends entry) nodes (ring_of (ends_at ends entry) nodes)
  -- each cell of a chain belongs to the chain's entry
  pub owned : (entry cell : ℕ) → entry < length ends → Contains (ring_of (ends_at ends entry) nodes) cell
      → (cell_at cells cell).entry ≡ entry
  pub entries : (cell : ℕ) → cell < length cells → (cell_at cells cell).entry < length ends
