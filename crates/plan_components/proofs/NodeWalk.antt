-- Shared: the invariant of the walk over the nodes.
use Rattle.std.proofs.Common.{◌≡◌, ◌<◌, ◌≤◌, ◌↔◌, inl, inr, ⊎_elim, ℕ, zero, suc, ◌+◌, List, [], ◌∷◌, ◌++◌, length, length-append, map, take, refl, sym, ap, ◌∙◌, subst, arith, Some}
use Rattle.std.specs.List.{Contains, slice_get}
use Rattle.std.proofs.lemmas.List.{map-append, take_all, take_more, take-append-le}
use Rattle.std.proofs.lemmas.List.Elements.{Contains-get_or, Contains-push_cases}
use Rattle.common_laws.specs.Lists.{contains-map, contains-none, map-contains}
use Rattle.plan_components.specs.declared.node.Need.{Need}
use Rattle.plan_components.specs.declared.node.Node.{Node}
use Rattle.plan_components.specs.Chosen.{Selection}
use Rattle.plan_components.specs.Needs.{needed_nodes, needs_of}
use Rattle.plan_components.specs.Places.{graph_of, row_of}
use Rattle.plan_components.specs.Plan.{IsInPlan, first, needed}
use Rattle.plan_components.specs.Steps.{AppendsNew, no_node, node_at}
use Rattle.plan_components.specs.Wanted.{first_nodes}
use Rattle.plan_components.proofs.NeedPlaces.{map-on, row_kept}

-- the node found at a place
pub here_is : (nodes : List Node) (i : ℕ) (node : Node) → slice_get nodes i ≡ Some node → node ≡ node_at nodes i
here_is [] i node h = absurd (cc h)
here_is (n ∷ nodes) zero node h = some-same h
  where
    some-same : Some n ≡ Some node → node ≡ n
    some-same e = cc e
here_is (n ∷ nodes) (suc i) node h = here_is nodes i node h

-- the nodes have the first nodes and the needs of the visited ones, and are all in the plan
pub record Keeps (selection : Selection) (nodes : List Node) (needs : List (List Need)) : Type 0 where
  pub within : length needs ≤ length nodes
  pub begun : (node : Node) → Contains (first_nodes selection) node → Contains nodes node
  pub reached : (node : Node) → Contains nodes node → IsInPlan selection node
  pub rows : needs ≡ map (needs_of selection) (take (length needs) nodes)
  pub closed : (node other : Node) → Contains (take (length needs) nodes) node → Contains (needed_nodes selection node) other → Contains nodes other

module _ (selection : Selection) where
  pub keeps_first : (nodes : List Node) → AppendsNew (first_nodes selection) [] nodes → Keeps selection nodes []
  keeps_first nodes p = record {
    within = omega arith;
    begun = λ node c. (p.members node).1 (inr c);
    reached = λ node c. ⊎_elim (λ none. absurd (contains-none node none)) (λ f. first node f) ((p.members node).0 c);
    rows = refl;
    closed = λ node other none x. absurd (contains-none node none);
  }

  module _ (nodes new : List Node) (needs : List (List Need)) (row : List Need) (keeps : Keeps selection nodes needs) (lt : length needs < length nodes)
      (row_is : row ≡ needs_of selection (node_at nodes (length needs))) (p : AppendsNew (needed_nodes selection (node_at nodes (length needs))) nodes new) where
    abbrev n : ℕ
    n = length needs

    abbrev here : Node
    here = node_at nodes n

    longer : length (needs ++ row ∷ []) ≡ n + 1
    longer = length-append needs (row ∷ [])

    front : take (length (needs ++ row ∷ [])) new ≡ take n nodes ++ here ∷ []
    front = ap (λ k. take k new) longer ∙ ap (take (n + 1)) p.grown ∙ take-append-le (n + 1) nodes p.more (omega (arith, lt)) ∙ take_more nodes n no_node lt

    fits : length (needs ++ row ∷ []) ≤ length new
    fits = let l = longer in let g = ap length p.grown ∙ length-append nodes p.more in omega (arith, l, g, lt)

    in_plan : (node : Node) → Contains new node → IsInPlan selection node
    in_plan node c = ⊎_elim
        (λ o. keeps.reached node o)
        (λ o. needed here node (keeps.reached here (Contains-get_or nodes n no_node lt)) o)
        ((p.members node).0 c)

    shut : (node other : Node) → Contains (take (length (needs ++ row ∷ [])) new) node → Contains (needed_nodes selection node) other → Contains new other
    shut node other c x = ⊎_elim
        (λ o. (p.members other).1 (inl (keeps.closed node other o x)))
        (λ e. (p.members other).1 (inr (subst (λ z. Contains (needed_nodes selection z) other) (sym e) x)))
        (Contains-push_cases (take n nodes) here node (subst (λ l. Contains l node) front c))

    pub keeps_next : Keeps selection new (needs ++ row ∷ [])
    keeps_next = record {
      within = fits;
      begun = λ node c. (p.members node).1 (inl (keeps.begun node c));
      reached = in_plan;
      rows = ap (λ l. l ++ row ∷ []) keeps.rows ∙ ap (λ r. map (needs_of selection) (take n nodes) ++ r ∷ []) row_is
          ∙ sym (map-append (needs_of selection) (take n nodes) (here ∷ [])) ∙ ap (map (needs_of selection)) (sym front);
      closed = shut;
    }

  module _ (nodes more new : List Node) (needs : List (List Need)) (row : List Need) (keeps : Keeps selection nodes needs) (grown : new ≡ nodes ++ more) where
    needed-there : (old : List Need) → Contains needs old → (need : Need) → Contains old need → Contains nodes need.node
    needed-there old c need k =
        let from = contains-map (needs_of selection) (take (length needs) nodes) old (subst (λ l. Contains l old) keeps.rows c) in
        keeps.closed from.0 need.node from.1 (map-contains (λ (n : Need). n.node) (needs_of selection from.0) need (subst (λ r. Contains r need) (sym from.2) k))

    -- the places of the needs so far stay, and those of one more node come behind them
    pub places_next : graph_of nodes needs ++ row_of new row ∷ [] ≡ graph_of new (needs ++ row ∷ [])
    places_next =
        ap (λ l. l ++ row_of new row ∷ []) (map-on (row_of nodes) (row_of new) needs (λ old c. row_kept nodes more new grown old (needed-there old c)))
        ∙ sym (map-append (row_of new) needs (row ∷ []))

  module _ (nodes : List Node) (needs : List (List Need)) (keeps : Keeps selection nodes needs) (over : length nodes ≤ length needs) where
    all : take (length needs) nodes ≡ nodes
    all = take_all (length needs) nodes over

    listed : (node : Node) → IsInPlan selection node → Contains nodes node
    listed node (first it c) = keeps.begun it c
    listed node (needed user it p x) = keeps.closed user it (subst (λ l. Contains l user) (sym all) (listed user p)) x

    pub each_reached : (node : Node) → Contains nodes node ↔ IsInPlan selection node
    each_reached node = (keeps.reached node, listed node)

    pub all_needs : needs ≡ map (needs_of selection) nodes
    all_needs = keeps.rows ∙ ap (map (needs_of selection)) all
