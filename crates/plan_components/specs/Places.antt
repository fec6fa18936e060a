-- The needs of each node, as places of nodes.
use Rattle.std.specs.Prelude.{ℕ, List, map}
use Rattle.plan_components.specs.declared.node.Need.{Need}
use Rattle.plan_components.specs.declared.node.Node.{Node}
use Rattle.plan_components.specs.SameNode.{place_of}

-- the places of these needs
abbrev pub row_of : List Node → List Need → List ℕ
row_of nodes needs = map (λ need. place_of nodes need.node) needs

-- the places of each node's needs
abbrev pub graph_of : List Node → List (List Need) → List (List ℕ)
graph_of nodes needs = map (row_of nodes) needs
