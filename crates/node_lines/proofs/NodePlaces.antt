-- Shared: nodes by place.
use Rattle.std.proofs.Common.{◌≡◌, ◌<◌, ℕ, suc, ◌+◌, true, false, cond, not, List, [], ◌∷◌, length, get_or, refl, sym, ap, ◌∙◌, subst, arith, ⊎_elim}
use Rattle.std.specs.List.{All, Contains}
use Rattle.std.proofs.lemmas.Bool.{false≢true}
use Rattle.std.proofs.lemmas.List.{get_or-map, get_or_default, length-map}
use Rattle.std.proofs.lemmas.List.Elements.{Contains-get_or}
use Rattle.common_laws.specs.Lists.{all-where, contains-cases, contains-map, contains-none, map-contains}
use Rattle.plan_components.specs.declared.node.Need.{Need}
use Rattle.plan_components.specs.declared.node.Node.{Node}
use Rattle.plan_components.specs.declared.reached.Reached.{Reached}
use Rattle.plan_components.specs.Chosen.{Selection}
use Rattle.plan_components.specs.Needs.{needs_of}
use Rattle.plan_components.specs.Plan.{AreReached, IsInPlan, needed}
use Rattle.plan_components.specs.SameNode.{node-is, node-self, place_of, same_node}
use Rattle.plan_components.specs.Steps.{no_node, node_at}
use Rattle.common_laws.specs.Graphs.{IsGraph, Needs}
use Rattle.plan_components.specs.Places.{graph_of, row_of}

-- the node at a place is this one
pub record IsAt (nodes : List Node) (node : Node) (place : ℕ) : Type 0 where
  pub within : place < length nodes
  pub is : node_at nodes place ≡ node

at-head : (n : Node) (nodes : List Node) (m : Node) → n ≡ m → IsAt (n ∷ nodes) m 0
at-head n nodes m e = record { within = omega arith; is = e }

at-tail : (n : Node) (nodes : List Node) (m : Node) (place : ℕ) → IsAt nodes m place → IsAt (n ∷ nodes) m (1 + place)
at-tail n nodes m place a = subst (IsAt (n ∷ nodes) m) (next place) (record { within = let w = a.within in omega (arith, w); is = a.is })
  where
    next : (k : ℕ) → suc k ≡ 1 + k
    next k = omega arith

pub at_place : (nodes : List Node) (m : Node) → Contains nodes m → IsAt nodes m (place_of nodes m)
at_place [] m c = absurd (contains-none m c)
at_place (n ∷ nodes) m c =
    elim (same_node m n) as (λ b. same_node m n ≡ b → IsAt (n ∷ nodes) m (cond (not b) (1 + place_of nodes m) 0)) [
      | true ↦ λ e. at-head n nodes m (sym (node-is m n e))
      | false ↦ λ e. at-tail n nodes m (place_of nodes m) (at_place nodes m (⊎_elim
          (λ same. absurd (false≢true (sym e ∙ ap (same_node m) same ∙ node-self m))) (λ r. r) (contains-cases n nodes m c)))
    ] refl

module _ (selection : Selection) (reached : Reached) (are : AreReached selection reached) where
  abbrev pub nodes : List Node
  nodes = reached.set.keys

  abbrev pub graph : List (List ℕ)
  graph = graph_of nodes reached.needs

  pub same_count : length reached.needs ≡ length nodes
  same_count = ap length are.needs ∙ length-map nodes (needs_of selection)

  pub graph_count : length graph ≡ length nodes
  graph_count = length-map reached.needs (row_of nodes) ∙ same_count

  -- the needs of the node at a place
  pub row_at : (i : ℕ) → i < length nodes → get_or reached.needs i [] ≡ needs_of selection (node_at nodes i)
  row_at i lt = ap (λ rows. get_or rows i []) are.needs ∙ get_or-map (needs_of selection) nodes i no_node [] lt

  pub places_at : (i : ℕ) → i < length nodes → get_or graph i [] ≡ row_of nodes (needs_of selection (node_at nodes i))
  places_at i lt =
      get_or-map (row_of nodes) reached.needs i [] [] (subst (λ n. i < n) (sym same_count) lt) ∙ ap (row_of nodes) (row_at i lt)

  -- a node of the plan is at its place
  pub stands : (node : Node) → IsInPlan selection node → IsAt nodes node (place_of nodes node)
  stands node p = at_place nodes node ((are.each node).1 p)

  in_plan : (i : ℕ) → i < length nodes → IsInPlan selection (node_at nodes i)
  in_plan i lt = (are.each (node_at nodes i)).0 (Contains-get_or nodes i no_node lt)

  -- a needed node is at its place
  pub need_stands : (i : ℕ) (need : Need) → i < length nodes → Contains (needs_of selection (node_at nodes i)) need
      → IsAt nodes need.node (place_of nodes need.node)
  need_stands i need lt c =
      stands need.node (needed (node_at nodes i) need.node (in_plan i lt) (map-contains (λ (n : Need). n.node) (needs_of selection (node_at nodes i)) need c))

  -- a need gives an edge of the graph
  pub edge : (i : ℕ) (need : Need) → i < length nodes → Contains (needs_of selection (node_at nodes i)) need → Needs graph i (place_of nodes need.node)
  edge i need lt c =
      subst (λ row. Contains row (place_of nodes need.node)) (sym (places_at i lt))
      (map-contains (λ (n : Need). place_of nodes n.node) (needs_of selection (node_at nodes i)) need c)

  -- each edge comes from a need
  pub from_edge : (i v : ℕ) → i < length nodes → Needs graph i v
      → (need : Need) × Contains (needs_of selection (node_at nodes i)) need × (place_of nodes need.node ≡ v)
  from_edge i v lt e =
      contains-map (λ (n : Need). place_of nodes n.node) (needs_of selection (node_at nodes i)) v (subst (λ row. Contains row v) (places_at i lt) e)

  inside : (row : List ℕ) → Contains graph row → (v : ℕ) → Contains row v → v < length graph
  inside row h v c =
      let within : h.0 < length nodes = subst (λ n. h.0 < n) graph_count h.1 in
      let same : row ≡ get_or graph h.0 [] = sym (get_or_default graph h.0 [] row h.1 ∙ h.2) in
      let found = from_edge h.0 v within (subst (λ r. Contains r v) same c) in
      let at = need_stands h.0 found.0 within found.1 in
      subst (λ n. n < length graph) found.2 (subst (λ n. place_of nodes found.0.node < n) (sym graph_count) at.within)

  pub is_graph : IsGraph graph
  is_graph = all-where (All (λ v. v < length graph)) graph (λ row c. all-where (λ v. v < length graph) row (inside row c))
