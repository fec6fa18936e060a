-- The loop that makes `placed_lines`, and the places in these.
use Rattle.std.proofs.Common.{◌≡◌, ◌≢◌, ◌<◌, ℕ, suc, ◌+◌, true, false, cond, not, List, [], ◌∷◌, ◌++◌, length, map, drop, get_or, Option, Some, None, refl, sym, ap, ◌∙◌, subst, arith, append_assoc, ⊎_elim}
use Rattle.std.specs.Prelude.{AllPairs, Contains}
use Rattle.std.proofs.lemmas.List.{get_or_default}
use Rattle.std.proofs.lemmas.List.Elements.{Contains-get_or}
use Rattle.common_laws.specs.Lists.{contains-append, contains-cases, contains-none, drop_at, map-contains, once-head, once-tail}
use Rattle.plan_nodes.specs.declared.node.PlanNode.{PlanNode}
use Rattle.plan_components.specs.declared.node.Node.{Node}
use Rattle.plan_components.specs.SameNode.{node-is, node-self, place_of, same_node}
use Rattle.plan_components.specs.Steps.{no_node}
use Rattle.elaborate.specs.declared.told.PlacedLine.{PlacedLine}
use Rattle.elaborate.specs.Telling.{lined_nodes, lined_of, placed_from, placed_line}
use Rattle.elaborate.proofs.Members.{beside}

-- the first one, and those from the next place on
one-more : (place : ℕ) (node : Node) (nodes : List Node) (line : Option PlanNode) (rest : List (Option PlanNode))
    → placed_from place (node ∷ nodes) (line ∷ rest) ≡ placed_line place node line ++ placed_from (place + 1) nodes rest
one-more place node nodes line rest = ap (λ k. placed_line place node line ++ placed_from k nodes rest) (next place)
  where
    next : (k : ℕ) → suc k ≡ k + 1
    next k = omega arith

pub placed_step : (nodes : List Node) (lines rest : List (Option PlanNode)) (line : Option PlanNode) (place : ℕ) (before after total : List PlacedLine)
    → length lines + place ≡ length nodes → lines ≡ line ∷ rest → after ≡ before ++ placed_line place (get_or nodes place no_node) line
    → before ++ placed_from place (drop place nodes) lines ≡ total → after ++ placed_from (place + 1) (drop (place + 1) nodes) rest ≡ total
placed_step nodes lines rest line place before after total count is more so_far =
    let longer = ap length is in
    let within : place < length nodes = omega (arith, longer, count) in
    let node = get_or nodes place no_node in
    let later = drop (place + 1) nodes in
    let split : placed_from place (drop place nodes) lines ≡ placed_line place node line ++ placed_from (place + 1) later rest =
    ap (placed_from place (drop place nodes)) is
    ∙ ap (λ ns. placed_from place ns (line ∷ rest)) (drop_at nodes place node within (get_or_default nodes place no_node node within))
    ∙ one-more place node later line rest in
    ap (λ l. l ++ placed_from (place + 1) later rest) more
    ∙ append_assoc before (placed_line place node line) (placed_from (place + 1) later rest)
    ∙ ap (λ l. before ++ l) (sym split)
    ∙ so_far

-- without their places
pub without-places : (place : ℕ) (nodes : List Node) (lines : List (Option PlanNode)) → map lined_of (placed_from place nodes lines) ≡ lined_nodes nodes lines
without-places place [] lines = refl
without-places place (node ∷ nodes) [] = refl
without-places place (node ∷ nodes) (None ∷ lines) = without-places (suc place) nodes lines
without-places place (node ∷ nodes) (Some line ∷ lines) = ap (λ l. record { node = node; line = line } ∷ l) (without-places (suc place) nodes lines)

-- ---- the places

-- the node of a placed line
node-there : (place : ℕ) (nodes : List Node) (lines : List (Option PlanNode)) (p : PlacedLine) → Contains (placed_from place nodes lines) p → Contains nodes p.lined.node
node-there place nodes lines p c =
    let b = beside nodes lines p.lined (subst (λ l. Contains l p.lined) (without-places place nodes lines) (map-contains lined_of (placed_from place nodes lines) p c)) in
    subst (Contains nodes) b.node (Contains-get_or nodes b.place no_node b.within)

first-place : (n : Node) (nodes : List Node) (m : Node) → n ≡ m → place_of (n ∷ nodes) m ≡ 0
first-place n nodes m e = ap (λ b. cond (not b) (1 + place_of nodes m) 0) (ap (same_node m) e ∙ node-self m)

later-place : (n : Node) (nodes : List Node) (m : Node) → n ≢ m → place_of (n ∷ nodes) m ≡ 1 + place_of nodes m
later-place n nodes m ne =
    elim (same_node m n) as (λ b. same_node m n ≡ b → cond (not b) (1 + place_of nodes m) 0 ≡ 1 + place_of nodes m) [
      | true ↦ λ e. absurd (ne (sym (node-is m n e)))
      | false ↦ λ e. refl
    ] refl

record IsHere (place : ℕ) (node : Node) (p : PlacedLine) : Type 0 where
  right : p.place ≡ place
  same : node ≡ p.lined.node

here : (place : ℕ) (node : Node) (line : Option PlanNode) (p : PlacedLine) → Contains (placed_line place node line) p → IsHere place node p
here place node None p c = absurd (contains-none p c)
here place node (Some line) p c = ⊎_elim
    (λ e. record { right = ap (λ (x : PlacedLine). x.place) (sym e); same = ap (λ (x : PlacedLine). x.lined.node) e })
    (λ r. absurd (contains-none p r))
    (contains-cases (record { place = place; lined = record { node = node; line = line } }) [] p c)

-- each place is that of the node
pub right-place : (place : ℕ) (nodes : List Node) (lines : List (Option PlanNode)) (p : PlacedLine) → AllPairs (λ a b. a ≢ b) nodes
    → Contains (placed_from place nodes lines) p → p.place ≡ place + place_of nodes p.lined.node
right-place place [] lines p once c = absurd (contains-none p c)
right-place place (node ∷ nodes) [] p once c = absurd (contains-none p c)
right-place place (node ∷ nodes) (line ∷ lines) p once c = ⊎_elim
    (λ l.
    let h = here place node line p l in
    let zero_more : place ≡ place + 0 = omega arith in
    h.right ∙ zero_more ∙ ap (λ k. place + k) (sym (first-place node nodes p.lined.node h.same)))
    (λ r.
    let m = p.lined.node in
    let there = node-there (suc place) nodes lines p r in
    let shifted : suc place + place_of nodes m ≡ place + (1 + place_of nodes m) = omega arith in
    right-place (suc place) nodes lines p (once-tail node nodes once) r ∙ shifted
    ∙ ap (λ k. place + k) (sym (later-place node nodes m (λ e. once-head node nodes once (subst (Contains nodes) (sym e) there)))))
    (contains-append (placed_line place node line) (placed_from (suc place) nodes lines) p c)
