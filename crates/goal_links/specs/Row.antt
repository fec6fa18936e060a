-- Rows of linked nodes. Unlinked nodes keep their neighbours.
use Rattle.std.specs.Prelude.{◌≡◌, ℕ, suc, ◌<◌, Bool, true, not, eqb, cond, List, [], ◌∷◌, ◌++◌, Option, Some, None, IsTrue, slice_get, slice_set}
use Rattle.std.specs.List.{list_any, filter}
use Rattle.goal_links.specs.declared.ring.RingNode.{RingNode}
use Rattle.goal_links.specs.Beside.{first_of, last_of, beside, behind_first, AreBeside}

-- a row as contracts see it
pub record Line : Type 0 where
  -- the linked nodes, in order
  pub linked : List ℕ
  -- for each unlinked node the neighbours that it keeps
  pub kept : List (Option (Option ℕ × Option ℕ))

-- whether the node is in the list
abbrev pub has_node : List ℕ → ℕ → Bool
has_node ns n = list_any (eqb n) ns

-- the place is before all of these nodes, or one of them
abbrev pub StandsIn : List ℕ → Option ℕ → Type 0
StandsIn ns None = Unit {0}
StandsIn ns (Some n) = IsTrue (has_node ns n)

-- the nodes without one
abbrev pub without_node : ℕ → List ℕ → List ℕ
without_node n ns = filter (λ m. not (eqb n m)) ns

-- the nodes behind a place
abbrev pub behind : Option ℕ → List ℕ → List ℕ
behind None ns = ns
behind (Some n) ns = behind_first (eqb n) ns

-- the neighbours that unlinked nodes keep, where nodes are numbered from n
abbrev pub kept_from : List ℕ → ℕ → List RingNode → List (Option (Option ℕ × Option ℕ))
kept_from linked n [] = []
kept_from linked n (node ∷ nodes) = cond (has_node linked n) None (Some (node.prev, node.next)) ∷ kept_from linked (suc n) nodes

-- one more node, unlinked and without neighbours
abbrev pub with_node : Line → Line
with_node line = record line { kept = line.kept ++ Some (None, None) ∷ [] }

-- a node unlinked, with its neighbours kept
abbrev pub unlinked : Line → ℕ → Line
unlinked line n = record {
  linked = without_node n line.linked;
  kept = slice_set line.kept n (Some (beside (eqb n) line.linked));
}

-- a node is unlinked, and the neighbours that it keeps are adjacent
abbrev pub MayReturn : Line → ℕ → Type 0
MayReturn line n = (sides : Option ℕ × Option ℕ) × (slice_get line.kept n ≡ Some (Some sides)) × AreBeside sides line.linked

-- each node is below count
abbrev pub AreBelow : ℕ → List ℕ → Type 0
AreBelow count ns = (n : ℕ) → has_node ns n ≡ true → n < count

-- a list of nodes split behind a place
abbrev pub IsParted : List ℕ → Option ℕ → List ℕ → List ℕ → Type 0
IsParted ns place front rest = (ns ≡ front ++ rest) × (last_of front ≡ place)

-- the gap between the neighbours that a node keeps
abbrev pub IsGap : Line → ℕ → List ℕ → List ℕ → Type 0
IsGap line n front rest = (line.linked ≡ front ++ rest) × (slice_get line.kept n ≡ Some (Some (last_of front, first_of rest)))
