-- Ranks: the places of nodes in sorted order, by the places at which they were reached.
use Rattle.std.specs.Prelude.{ℕ, suc, nat_lt, if◌then◌else◌, List, [], ◌∷◌, length, map, slice_set, slice_index_or}
use Rattle.elaborate.specs.declared.told.PlacedLine.{PlacedLine}

-- a table with this rank at a place
abbrev pub with_rank : List ℕ → ℕ → ℕ → List ℕ
with_rank ranks place rank = if nat_lt place (length ranks) then slice_set ranks place rank else ranks

-- a table with the ranks of these nodes, counted from one
abbrev pub ranks_by : List ℕ → ℕ → List PlacedLine → List ℕ
ranks_by ranks rank [] = ranks
ranks_by ranks rank (placed ∷ all) = ranks_by (with_rank ranks placed.place rank) (suc rank) all

-- the rank of the node at a place
abbrev pub rank_of : List ℕ → ℕ → ℕ
rank_of ranks place = slice_index_or ranks place 0

-- the ranks of a node's needs, by the places of all needs
abbrev pub ranked_row : List (List ℕ) → List ℕ → PlacedLine → List ℕ
ranked_row places ranks placed = map (rank_of ranks) (slice_index_or places placed.place [])
