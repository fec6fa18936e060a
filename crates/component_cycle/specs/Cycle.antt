-- Cycles of a graph that is given by adjacency lists.
use Rattle.std.specs.Prelude.{ℕ, ◌≤◌, List, Option, Some, None}
use Rattle.common_laws.specs.Graphs.{IsPath, Needs}

-- a path leads from a node to itself
abbrev pub IsOnCycle : List (List ℕ) → ℕ → Type 0
IsOnCycle needs u = IsPath (Needs needs) u u

-- the least node on a cycle, or none if there is no cycle
abbrev pub IsFirstOnCycle : List (List ℕ) → Option ℕ → Type 0
IsFirstOnCycle needs None = (u : ℕ) → IsOnCycle needs u → ⊥
IsFirstOnCycle needs (Some u) = IsOnCycle needs u × ((v : ℕ) → IsOnCycle needs v → u ≤ v)
