-- Shared: places of needed nodes, while nodes are added.
use Rattle.std.proofs.Common.{◌≡◌, ⊎_elim, ◌+◌, Bool, true, false, cond, not, List, [], ◌∷◌, ◌++◌, map, refl, sym, ap, ◌∙◌, if◌then◌else◌}
use Rattle.std.specs.List.{Contains, list_any, position_or_len}
use Rattle.std.proofs.lemmas.Bool.{false≢true}
use Rattle.indexmap.specs.IndexSet.{insert_key}
use Rattle.common_laws.specs.Lists.{contains-cases, contains-head, contains-none, contains-tail}
use Rattle.plan_components.specs.contracts.node.NodePartialEq.TheImpl.{eq-value}
use Rattle.plan_components.specs.declared.node.Need.{Need}
use Rattle.plan_components.specs.declared.node.Node.{Node}
use Rattle.plan_components.specs.Places.{row_of}
use Rattle.plan_components.specs.SameNode.{node-self, place_of, same_node}
use Rattle.plan_components.proofs.SameNodes.{derived}

-- functions that agree on a list give the same list
pub map-on : {X Y : Type 0} (f g : X → Y) (xs : List X) → ((x : X) → Contains xs x → f x ≡ g x) → map f xs ≡ map g xs
map-on f g [] h = refl
map-on f g (x ∷ xs) h = ap (λ y. y ∷ map f xs) (h x (contains-head x xs)) ∙ ap (λ l. g x ∷ l) (map-on f g xs (λ y c. h y (contains-tail x xs y c)))

-- an item behind the last has the place that it would be given
last-place : {X : Type 0} (test : X → Bool) (xs : List X) (x : X) → test x ≡ true → position_or_len test (xs ++ x ∷ []) ≡ position_or_len test xs
last-place test [] x h = ap (λ b. cond (not b) 1 0) h
last-place test (y ∷ xs) x h = ap (λ n. cond (not (test y)) (1 + n) 0) (last-place test xs x h)

-- the place at which a node is inserted is its place from then on
pub puts_place : (old : List Node) (n : Node) → position_or_len (eq-value.it n) old ≡ place_of (insert_key eq-value.it old n) n
puts_place old n =
    ap (λ (test : Node → Bool). position_or_len test old) (λ i m. derived n m i)
    ∙ sym (by (list_any (eq-value.it n) old))
  where
    by : (b : Bool) → place_of (if b then old else old ++ n ∷ []) n ≡ place_of old n
    by true = refl
    by false = last-place (same_node n) old n (node-self n)

-- a node keeps its place when others are appended
place-kept : (nodes more : List Node) (m : Node) → Contains nodes m → place_of nodes m ≡ place_of (nodes ++ more) m
place-kept [] more m c = absurd (contains-none m c)
place-kept (n ∷ nodes) more m c =
    elim (same_node m n) as (λ b. same_node m n ≡ b → cond (not b) (1 + place_of nodes m) 0 ≡ cond (not b) (1 + place_of (nodes ++ more) m) 0) [
      | true ↦ λ e. refl
      | false ↦ λ e. ap (λ k. 1 + k) (place-kept nodes more m (⊎_elim
          (λ same. absurd (false≢true (sym e ∙ ap (same_node m) same ∙ node-self m))) (λ r. r) (contains-cases n nodes m c)))
    ] refl

-- and so do the nodes of needs
pub row_kept : (nodes more new : List Node) → new ≡ nodes ++ more → (needs : List Need) → ((need : Need) → Contains needs need → Contains nodes need.node)
    → row_of nodes needs ≡ row_of new needs
row_kept nodes more new grown needs there =
    map-on (λ (n : Need). place_of nodes n.node) (λ (n : Need). place_of (nodes ++ more) n.node) needs (λ n c. place-kept nodes more n.node (there n c))
    ∙ ap (λ l. row_of l needs) (sym grown)
