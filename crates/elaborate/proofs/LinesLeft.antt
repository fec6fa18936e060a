-- Lines that are moved into build order: each is still there when it is taken.
use Rattle.std.proofs.Common.{◌≡◌, ◌≢◌, ◌<◌, ℕ, ◌+◌, List, [], ◌∷◌, ◌++◌, length, map, take, drop, set, get_or, Option, Some, None, sym, ap, ◌∙◌, subst, arith}
use Rattle.std.specs.Prelude.{AllPairs, Contains}
use Rattle.std.proofs.lemmas.List.{get_or-map, get_or-set_other, get_or-take, get_or_default, length-map, length-set, length-take, take-append-drop}
use Rattle.std.proofs.lemmas.List.Elements.{Contains-append_left, Contains-push}
use Rattle.common_laws.specs.Lists.{drop_at}
use Rattle.build_order.specs.Order.{IsBuildOrder}
use Rattle.plan_nodes.specs.declared.node.PlanNode.{PlanNode}
use Rattle.elaborate.specs.declared.told.LinedNode.{LinedNode}
use Rattle.elaborate.specs.Plan.{line_at, no_told}
use Rattle.elaborate.specs.Telling.{line_of}

-- an item in front of a place
in-front : {X : Type 0} (xs : List X) (i j : ℕ) (d : X) → i < j → j < length xs → Contains (take j xs) (get_or xs i d)
in-front xs i j d less within =
    let long = length-take j xs in
    let x = get_or xs i d in
    let there : i < length (take j xs) = omega (arith, long, less, within) in
    (i, there, get_or-take j xs i x less ∙ sym (get_or_default xs i d x (omega (arith, less, within))))

-- a build order has each place once
pub each-once : (needs : List (List ℕ)) (order : List ℕ) → IsBuildOrder needs order → AllPairs (λ a b. a ≢ b) order
each-once needs order build i j d less within same =
    let u = get_or order j d in
    let split : order ≡ take j order ++ u ∷ drop (j + 1) order =
    sym (take-append-drop j order) ∙ ap (λ r. take j order ++ r) (drop_at order j u within (get_or_default order j d u within)) in
    (build.each (take j order) (drop (j + 1) order) u split).ready.unplaced (subst (Contains (take j order)) same (in-front order i j d less within))

-- a place is not among those in front
pub not-in-front : (places : List ℕ) (k : ℕ) → k < length places → AllPairs (λ a b. a ≢ b) places → Contains (take k places) (get_or places k 0) → ⊥
not-in-front places k within once c =
    let x = get_or places k 0 in
    let long = length-take k places in
    let there = c.1 in
    let less : c.0 < k = omega (arith, long, there) in
    once c.0 k x less within (sym (get_or-take k places c.0 x less) ∙ c.2 ∙ get_or_default places k 0 x within)

-- the line of each node is there, but for those at the places in front
pub record AreLeft (all : List LinedNode) (front : List ℕ) (left : List (Option PlanNode)) : Type 0 where
  pub count : length left ≡ length all
  pub rest : (i : ℕ) → i < length all → (Contains front i → ⊥) → get_or left i None ≡ Some (line_at all i)

pub all-left : (all : List LinedNode) (left : List (Option PlanNode)) → left ≡ map line_of all → AreLeft all [] left
all-left all left is = record {
  count = ap length is ∙ length-map all line_of;
  rest = λ i lt out. ap (λ l. get_or l i None) is ∙ get_or-map line_of all i no_told None lt;
}

pub left-next : (all : List LinedNode) (front : List ℕ) (left : List (Option PlanNode)) (place : ℕ) → AreLeft all front left → AreLeft all (front ++ place ∷ []) (set left place None)
left-next all front left place are = record {
  count = length-set left place None ∙ are.count;
  rest = λ i lt out.
      get_or-set_other left place i None None (λ e. out (subst (Contains (front ++ place ∷ [])) (sym e) (Contains-push front place)))
      ∙ are.rest i lt (λ c. out (Contains-append_left front (place ∷ []) i c));
}
