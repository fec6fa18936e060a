-- A traversal takes each node of a plan once. It ends, since the nodes are finitely many.
use Rattle.std.proofs.Common.{BuildHasherDefault, FoldHasher, ◌≡◌, ◌≢◌, ◌≤◌, ◌↔◌, inl, inr, ℕ, zero, suc, ◌+◌, true, false, if◌then◌else◌, List, [], ◌∷◌, ◌++◌, length, length-append, map, refl, ap, sym, ◌∙◌, subst, arith}
use Rattle.std.specs.Hash.FoldHasher.{initial}
use Rattle.std.specs.List.{AllPairs, Contains, IsDistinct, list_any}
use Rattle.std.proofs.lemmas.Bool.{cases_lt}
use Rattle.std.proofs.lemmas.Map.Keys.{IsDistinct-push}
use Rattle.std.proofs.lemmas.Map.Made.{length-le_from_is_member}
use Rattle.indexmap.specs.IndexSet.{IndexSet, insert_all, insert_key}
use Rattle.indexmap.specs.Layout.{hash_map, key_set}
use Rattle.common_laws.specs.Lists.{any-at, any-from}
use Rattle.plan_components.specs.contracts.node.NodeEq.TheImpl.Laws.{laws-law}
use Rattle.plan_components.specs.contracts.node.NodePartialEq.TheImpl.{eq-value}
use Rattle.plan_components.specs.declared.node.Need.{Need}
use Rattle.plan_components.specs.declared.node.Node.{Node}
use Rattle.plan_components.specs.declared.reached.Reached.{Reached}
use Rattle.plan_components.specs.Chosen.{Selection}
use Rattle.plan_components.specs.Needs.{needed_nodes, needs_of}
use Rattle.plan_components.specs.Places.{graph_of}
use Rattle.plan_components.specs.Plan.{AreReached, IsInPlan}
use Rattle.plan_components.specs.Steps.{AppendsNew, node_at}
use Rattle.plan_components.specs.Wanted.{first_nodes}
use Rattle.plan_components.proofs.SameNodes.{alike, differ, exact}
use Rattle.plan_components.proofs.AddedNodes.{puts_both, puts_key, puts_none}
use Rattle.plan_components.proofs.NodeWalk.{Keeps, all_needs, each_reached, keeps_first, keeps_next}
use Rattle.every_plan.proofs.Nodes.{all_nodes, is_among}

-- ---- nodes, each once

-- nodes are distinct, by the equality of the set
abbrev Once : List Node → Type 0
Once nodes = IsDistinct eq-value.it nodes

once-none : Once []
unfolding IsDistinct
once-none = tt

once-key : (nodes : List Node) (n : Node) → Once nodes → Once (insert_key eq-value.it nodes n)
once-key nodes n once =
    elim (list_any (eq-value.it n) nodes) as (λ b. list_any (eq-value.it n) nodes ≡ b → Once (if b then nodes else nodes ++ n ∷ [])) [
      | true ↦ λ e. once
      | false ↦ λ e. IsDistinct-push laws-law nodes n once e
    ] refl

once-all : (nodes more : List Node) → Once nodes → Once (insert_all eq-value.it nodes more)
once-all nodes [] once = once
once-all nodes (n ∷ more) once = once-all (insert_key eq-value.it nodes n) more (once-key nodes n once)

puts-all : (nodes more : List Node) → AppendsNew more nodes (insert_all eq-value.it nodes more)
puts-all nodes [] = puts_none nodes
puts-all nodes (n ∷ more) =
    let next = insert_key eq-value.it nodes n in
    puts_both (n ∷ []) more nodes next (insert_all eq-value.it next more) (puts_key nodes n) (puts-all next more)

-- distinct nodes that are among others are no more than these
no-more : (nodes others : List Node) → Once nodes → ((n : Node) → Contains nodes n → Contains others n) → length nodes ≤ length others
no-more nodes others once inside =
    length-le_from_is_member laws-law nodes others once
    (λ n h.
    let found = any-at (eq-value.it n) nodes h in
    any-from (eq-value.it n) others n (inside n (subst (Contains nodes) (sym (exact n found.0 found.2)) found.1)) (alike n))

-- a set of these nodes, with any capacity and hasher
set_of : List Node → IndexSet Node (BuildHasherDefault FoldHasher)
set_of nodes = key_set (hash_map (map (λ n. (n, n)) nodes) (record { initial = initial }) 0)

set_has : (nodes : List Node) → (set_of nodes).keys ≡ nodes
unfolding set_of
set_has [] = refl
set_has (n ∷ nodes) = ap (λ l. n ∷ l) (set_has nodes)

-- ---- the traversal

module _ (selection : Selection) where
  abbrev Found : Type 0
  Found = (reached : Reached) × AreReached selection reached

  -- the end: the needs of all nodes are there
  ends : (nodes : List Node) (needs : List (List Need)) → Keeps selection nodes needs → Once nodes → length nodes ≤ length needs → Found
  ends nodes needs keeps once over = (
    record { set = set_of nodes; needs = needs; places = graph_of (set_of nodes).keys needs },
    record {
      once = subst (AllPairs (λ a b. a ≢ b)) (sym (set_has nodes)) (differ nodes once);
      each = λ node. subst (λ l. Contains l node ↔ IsInPlan selection node) (sym (set_has nodes)) (each_reached selection nodes needs keeps over node);
      needs = all_needs selection nodes needs keeps over ∙ ap (map (needs_of selection)) (sym (set_has nodes));
      places = refl;
    },
  )

  -- the step, by the number of nodes that are left
  goes : (fuel : ℕ) (nodes : List Node) (needs : List (List Need)) → Keeps selection nodes needs → Once nodes → length (all_nodes selection) ≤ fuel + length needs → Found
  goes zero nodes needs keeps once low =
      let fits = no-more nodes (all_nodes selection) once (λ node c. is_among selection node (keeps.reached node c)) in
      ends nodes needs keeps once (omega (arith, fits, low))
  goes (suc fuel) nodes needs keeps once low =
      elim (cases_lt (length needs) (length nodes)) [
        | inl less ↦
            let here = node_at nodes (length needs) in
            let row = needs_of selection here in
            let others = needed_nodes selection here in
            let longer = length-append needs (row ∷ []) in
            goes fuel (insert_all eq-value.it nodes others) (needs ++ row ∷ [])
            (keeps_next selection nodes (insert_all eq-value.it nodes others) needs row keeps less refl (puts-all nodes others))
            (once-all nodes others once) (omega (arith, longer, low))
        | inr over ↦ ends nodes needs keeps once over
      ]

  -- the nodes of the plan
  pub some_reached : Found
  some_reached =
      let nodes = insert_all eq-value.it [] (first_nodes selection) in
      goes (length (all_nodes selection)) nodes [] (keeps_first selection nodes (puts-all [] (first_nodes selection)))
      (once-all [] (first_nodes selection) once-none) (omega arith)
