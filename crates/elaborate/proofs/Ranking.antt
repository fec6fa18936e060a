-- After the loop the table has the rank of each node.
use Rattle.std.proofs.Common.{◌≡◌, ◌≢◌, ◌<◌, ℕ, suc, ◌+◌, true, false, cond, not, set, List, [], ◌∷◌, length, map, get_or, replicate, refl, sym, ap, ◌∙◌, subst, arith, ⊎_elim}
use Rattle.std.specs.Prelude.{AllPairs, Contains}
use Rattle.std.proofs.lemmas.Bool.{false≢true, lt-ltb}
use Rattle.std.proofs.lemmas.List.{get_or-set_other, get_or-set_same, length-replicate, length-set}
use Rattle.common_laws.specs.Lists.{contains-cases, contains-head, contains-none, contains-tail, once-head, once-tail}
use Rattle.plan_components.specs.declared.node.Node.{Node}
use Rattle.plan_components.specs.SameNode.{node-is, node-self, place_of, same_node}
use Rattle.plan_components.specs.Steps.{node_at}
use Rattle.node_lines.proofs.NodePlaces.{at_place}
use Rattle.elaborate.specs.declared.told.LinedNode.{LinedNode}
use Rattle.elaborate.specs.Plan.{nodes_of}
use Rattle.elaborate.specs.declared.told.PlacedLine.{PlacedLine}
use Rattle.elaborate.specs.Ranks.{ranks_by, with_rank}
use Rattle.elaborate.specs.Telling.{lined_of}

-- a table with the ranks of these nodes, counted from a place
abbrev pub ranks_from : List Node → List ℕ → ℕ → List LinedNode → List ℕ
ranks_from nodes ranks place [] = ranks
ranks_from nodes ranks place (told ∷ all) = ranks_from nodes (with_rank ranks (place_of nodes told.node) place) (suc place) all

-- the table of these nodes' ranks
abbrev pub ranks_after : List Node → List LinedNode → List ℕ
ranks_after nodes all = ranks_from nodes (replicate (length nodes) 0) 0 all

-- it is the table by their places
pub same_ranks : (nodes : List Node) (ranks : List ℕ) (rank : ℕ) (items : List PlacedLine) → ((p : PlacedLine) → Contains items p → p.place ≡ place_of nodes p.lined.node)
    → ranks_by ranks rank items ≡ ranks_from nodes ranks rank (map lined_of items)
same_ranks nodes ranks rank [] at = refl
same_ranks nodes ranks rank (p ∷ items) at =
    ap (λ k. ranks_by (with_rank ranks k rank) (suc rank) items) (at p (contains-head p items))
    ∙ same_ranks nodes (with_rank ranks (place_of nodes p.lined.node) rank) (suc rank) items (λ q c. at q (contains-tail p items q c))

module _ (nodes : List Node) where
  -- `place_of` is injective
  apart : (m n : Node) → Contains nodes m → Contains nodes n → m ≢ n → place_of nodes n ≢ place_of nodes m
  apart m n have_m have_n differ e = differ (sym (at_place nodes m have_m).is ∙ ap (node_at nodes) (sym e) ∙ (at_place nodes n have_n).is)

  module _ (t : LinedNode) (ranks : List ℕ) (place : ℕ) (count : length ranks ≡ length nodes) (there : Contains nodes t.node) where
    abbrev next : List ℕ
    next = with_rank ranks (place_of nodes t.node) place

    inside : place_of nodes t.node < length ranks
    inside = subst (λ n. place_of nodes t.node < n) (sym count) (at_place nodes t.node there).within

    is-set : next ≡ set ranks (place_of nodes t.node) place
    is-set = ap (λ b. cond b (set ranks (place_of nodes t.node) place) ranks) (lt-ltb (place_of nodes t.node) (length ranks) inside)

    same-count : length next ≡ length nodes
    same-count = ap length is-set ∙ length-set ranks (place_of nodes t.node) place ∙ count

    here : get_or next (place_of nodes t.node) 0 ≡ place
    here = ap (λ r. get_or r (place_of nodes t.node) 0) is-set ∙ get_or-set_same ranks (place_of nodes t.node) place 0 inside

    elsewhere : (n : Node) → Contains nodes n → t.node ≢ n → get_or next (place_of nodes n) 0 ≡ get_or ranks (place_of nodes n) 0
    elsewhere n have differ =
        ap (λ r. get_or r (place_of nodes n) 0) is-set
        ∙ get_or-set_other ranks (place_of nodes t.node) (place_of nodes n) place 0 (apart t.node n there have differ)

  abbrev AreAmong : List LinedNode → Type 0
  AreAmong all = (m : Node) → Contains (nodes_of all) m → Contains nodes m

  first : (t : LinedNode) (all : List LinedNode) → AreAmong (t ∷ all) → Contains nodes t.node
  first t all among = among t.node (contains-head t.node (nodes_of all))

  others : (t : LinedNode) (all : List LinedNode) → AreAmong (t ∷ all) → AreAmong all
  others t all among m c = among m (contains-tail t.node (nodes_of all) m c)

  -- a node that isn't among these keeps its rank
  kept : (all : List LinedNode) (ranks : List ℕ) (place : ℕ) (n : Node) → length ranks ≡ length nodes → AreAmong all → Contains nodes n
      → (Contains (nodes_of all) n → ⊥) → get_or (ranks_from nodes ranks place all) (place_of nodes n) 0 ≡ get_or ranks (place_of nodes n) 0
  kept [] ranks place n count among have out = refl
  kept (t ∷ all) ranks place n count among have out =
      let there = first t all among in
      kept all (next t ranks place count there) (suc place) n (same-count t ranks place count there) (others t all among) have (λ c. out (contains-tail t.node (nodes_of all) n c))
      ∙ elsewhere t ranks place count there n have (λ e. out (subst (Contains (nodes_of (t ∷ all))) e (contains-head t.node (nodes_of all))))

  ranked : (all : List LinedNode) (ranks : List ℕ) (place : ℕ) (n : Node) → length ranks ≡ length nodes → AreAmong all → AllPairs (λ a b. a ≢ b) (nodes_of all)
      → Contains (nodes_of all) n → get_or (ranks_from nodes ranks place all) (place_of nodes n) 0 ≡ place + place_of (nodes_of all) n
  ranked [] ranks place n count among once c = absurd (contains-none n c)
  ranked (t ∷ all) ranks place n count among once c =
      let there = first t all among in
      let more = next t ranks place count there in
      let long = same-count t ranks place count there in
      elim (same_node n t.node) as (λ b. same_node n t.node ≡ b
      → get_or (ranks_from nodes more (suc place) all) (place_of nodes n) 0 ≡ place + cond (not b) (1 + place_of (nodes_of all) n) 0) [
        | true ↦ λ e.
            let same : n ≡ t.node = node-is n t.node e in
            let still : place ≡ place + 0 = omega arith in
            kept all more (suc place) n long (others t all among) (among n c) (λ k. once-head t.node (nodes_of all) once (subst (Contains (nodes_of all)) same k))
            ∙ ap (λ m. get_or more (place_of nodes m) 0) same
            ∙ here t ranks place count there ∙ still
        | false ↦ λ e.
            let shifted : suc place + place_of (nodes_of all) n ≡ place + (1 + place_of (nodes_of all) n) = omega arith in
            ranked all more (suc place) n long (others t all among) (once-tail t.node (nodes_of all) once)
            (⊎_elim (λ same. absurd (false≢true (sym e ∙ ap (same_node n) same ∙ node-self n))) (λ r. r) (contains-cases t.node (nodes_of all) n c))
            ∙ shifted
      ] refl

  -- the rank of a node
  pub rank_is : (all : List LinedNode) (n : Node) → AreAmong all → AllPairs (λ a b. a ≢ b) (nodes_of all) → Contains (nodes_of all) n
      → get_or (ranks_after nodes all) (place_of nodes n) 0 ≡ place_of (nodes_of all) n
  rank_is all n among once c =
      let plain : 0 + place_of (nodes_of all) n ≡ place_of (nodes_of all) n = omega arith in
      ranked all (replicate (length nodes) 0) 0 n (length-replicate (length nodes) 0) among once c ∙ plain
