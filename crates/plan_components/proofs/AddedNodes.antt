-- Shared: insertion of nodes, each once.
use Rattle.std.proofs.Common.{◌≡◌, ◌⊎◌, inl, inr, ⊎_elim, ℕ, ◌<◌, ◌+◌, Bool, true, false, List, [], ◌∷◌, ◌++◌, length, map, take, get_or, append_assoc, append-nil, refl, sym, ap, ◌∙◌, subst, if◌then◌else◌}
use Rattle.std.specs.List.{Contains, list_any}
use Rattle.std.proofs.lemmas.List.{map-append, take_more}
use Rattle.std.proofs.lemmas.List.Elements.{Contains-append_left, Contains-push, Contains-push_cases}
use Rattle.indexmap.specs.IndexSet.{insert_key}
use Rattle.common_laws.specs.Lists.{any-at, contains-append, contains-cases, contains-head, contains-left, contains-none, contains-right}
use Rattle.plan_components.specs.contracts.node.NodePartialEq.TheImpl.{eq-value}
use Rattle.plan_components.specs.declared.node.Node.{Node}
use Rattle.plan_components.specs.Steps.{AppendsNew}
use Rattle.plan_components.proofs.SameNodes.{exact}

-- ---- one node

module _ (nodes : List Node) (n : Node) where
  abbrev is_there : Bool
  is_there = list_any (eq-value.it n) nodes

  abbrev after : Bool → List Node
  after b = if b then nodes else nodes ++ n ∷ []

  there : is_there ≡ true → Contains nodes n
  there h = let found = any-at (eq-value.it n) nodes h in subst (Contains nodes) (sym (exact n found.0 found.2)) found.1

  more : (b : Bool) → (rest : List Node) × (after b ≡ nodes ++ rest)
  more true = ([], sym (append-nil nodes))
  more false = (n ∷ [], refl)

  from : (b : Bool) (m : Node) → Contains (after b) m → Contains nodes m ⊎ (n ≡ m)
  from true m c = inl c
  from false m c = Contains-push_cases nodes n m c

  kept : (b : Bool) (m : Node) → Contains nodes m → Contains (after b) m
  kept true m c = c
  kept false m c = Contains-append_left nodes (n ∷ []) m c

  last : (b : Bool) → is_there ≡ b → Contains (after b) n
  last true h = there h
  last false h = Contains-push nodes n

-- ---- some nodes

pub puts_none : (nodes : List Node) → AppendsNew [] nodes nodes
puts_none nodes = record {
  more = [];
  grown = sym (append-nil nodes);
  members = λ m. ((λ c. inl c), λ h. ⊎_elim (λ c. c) (λ none. absurd (contains-none m none)) h);
}

abbrev one : Node → List Node
one n = n ∷ []

pub puts_key : (old : List Node) (n : Node) → AppendsNew (one n) old (insert_key eq-value.it old n)
puts_key old n = record { more = grows.0; grown = grows.1; members = λ m. (into m, onto m) }
  where
    b : Bool
    b = list_any (eq-value.it n) old

    grows : (rest : List Node) × (insert_key eq-value.it old n ≡ old ++ rest)
    grows = more old n b

    into : (m : Node) → Contains (insert_key eq-value.it old n) m → Contains old m ⊎ Contains (one n) m
    into m c = ⊎_elim (λ o. inl o) (λ e. inr (subst (Contains (one n)) e (contains-head n []))) (from old n b m c)

    onto : (m : Node) → Contains old m ⊎ Contains (one n) m → Contains (insert_key eq-value.it old n) m
    onto m h = ⊎_elim (λ o. kept old n b m o)
        (λ k. ⊎_elim (λ e. subst (Contains (insert_key eq-value.it old n)) e (last old n b refl)) (λ none. absurd (contains-none m none)) (contains-cases n [] m k))
        h

-- inserting one list and then another inserts both
pub puts_both : (first second old mid new : List Node) → AppendsNew first old mid → AppendsNew second mid new → AppendsNew (first ++ second) old new
puts_both first second old mid new p q = record {
  more = p.more ++ q.more;
  grown = q.grown ∙ ap (λ l. l ++ q.more) p.grown ∙ append_assoc old p.more q.more;
  members = λ m. (into m, onto m);
}
  where
    into : (m : Node) → Contains new m → Contains old m ⊎ Contains (first ++ second) m
    into m c = ⊎_elim
        (λ k. ⊎_elim (λ o. inl o) (λ f. inr (contains-left first second m f)) ((p.members m).0 k))
        (λ s. inr (contains-right first second m s))
        ((q.members m).0 c)

    onto : (m : Node) → Contains old m ⊎ Contains (first ++ second) m → Contains new m
    onto m h = ⊎_elim
        (λ o. (q.members m).1 (inl ((p.members m).1 (inl o))))
        (λ k. ⊎_elim (λ f. (q.members m).1 (inl ((p.members m).1 (inr f)))) (λ s. (q.members m).1 (inr s)) (contains-append first second m k))
        h

-- ---- a step of a loop

module _ {A : Type 0} (node : A → Node) (xs : List A) (i : ℕ) (d : A) (within : i < length xs) where
  pub puts_more : (old mid new : List Node) → AppendsNew (map node (take i xs)) old mid → AppendsNew (node (get_or xs i d) ∷ []) mid new → AppendsNew (map node (take (i + 1) xs)) old new
  puts_more old mid new p q =
      subst (λ l. AppendsNew l old new) (sym (ap (map node) (take_more xs i d within) ∙ map-append node (take i xs) (get_or xs i d ∷ [])))
      (puts_both (map node (take i xs)) (node (get_or xs i d) ∷ []) old mid new p q)

pub same-list : (xs : List Node) → map (λ n. n) xs ≡ xs
same-list [] = refl
same-list (x ∷ xs) = ap (λ l. x ∷ l) (same-list xs)
