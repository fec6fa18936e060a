-- Where the first demands have no cycle, each cycle has an edge of a later demand.
use Rattle.std.proofs.Common.{◌≡◌, ◌↔◌, ℕ, ◌+◌, ◌≤◌, Bool, true, false, cond, List, [], ◌∷◌, ◌++◌, Some, None, length, take, drop, slice_get, refl, sym, ap, ◌∙◌, subst, inl, inr, ◌⊎◌, arith, append_assoc, append-nil}
use Rattle.std.specs.Prelude.{option_to_list, flat_map, filter}
use Rattle.std.specs.List.{Contains, list_any}
use Rattle.std.proofs.lemmas.Bool.{false≢true, false_from_ne_true}
use Rattle.std.proofs.lemmas.List.{take-append-drop, drop_all}
use Rattle.std.proofs.lemmas.Option.{slice_get_within, get_or_from_slice_get}
use Rattle.qualified_goals.specs.declared.variable.Var.{Var}
use Rattle.choice_problem.specs.declared.problem.Choice.{Choice}
use Rattle.choice_problem.specs.declared.problem.Demand.{Demand}
use Rattle.choice_problem.specs.ConflictSet.{set_of}
use Rattle.choice_problem.specs.Conflict.{Edge, leads, edges_from, edges_by, edges_of, named_by, lies_on_cycle, circular, set_of_all}
use Rattle.qualified_goals.specs.Variable.{same_var}
use Rattle.qualified_goals.specs.SameVariable.{same_var-is, same_var-refl}
use Rattle.common_laws.specs.Lists.{contains-head, contains-none, contains-cases, contains-append, contains-right, contains-flat_map, flat_map-contains, contains-filter, filter-none, filter-contains, any-from, any-at, drop_at}
use Rattle.choice_problem.proofs.EdgePaths.{Way, start, step, way-join, way-edge, leads-way, way-leads}
use Rattle.demand_cycles.specs.Cycles.{HasEdge, leads_to_any, first_of_condition, owner_of, owners_on_cycles}

-- the edge of a condition and a target

edge-to : (when : List Choice) (target : Var) (e : Edge) → Contains (edges_from when target) e → e.to ≡ target
edge-to [] target e h = absurd (contains-none e h)
edge-to (c ∷ others) target e h = elim (contains-cases (record { from = c.var; to = target }) [] e h) [
  | inl same ↦ sym (ap (λ (x : Edge). x.to) same)
  | inr none ↦ absurd (contains-none e none)
]

edge-owner : (when : List Choice) (target : Var) (e : Edge) → Contains (edges_from when target) e → Contains (option_to_list (first_of_condition when)) e.from
edge-owner [] target e h = absurd (contains-none e h)
edge-owner (c ∷ others) target e h = elim (contains-cases (record { from = c.var; to = target }) [] e h) [
  | inl same ↦ subst (λ v. Contains (c.var ∷ []) v) (ap (λ (x : Edge). x.from) same) (contains-head c.var [])
  | inr none ↦ absurd (contains-none e none)
]

edge-of : (when : List Choice) (target v : Var) → Contains (option_to_list (first_of_condition when)) v → (e : Edge) × Contains (edges_from when target) e × (e.from ≡ v) × (e.to ≡ target)
edge-of [] target v h = absurd (contains-none v h)
edge-of (c ∷ others) target v h = elim (contains-cases c.var [] v h) [
  | inl same ↦ let e : Edge = record { from = c.var; to = target } in (e, contains-head e [], same, refl)
  | inr none ↦ absurd (contains-none v none)
]

-- the owners of the demands on a target are the starts of edges to it
pub sources-of : (demands : List Demand) (to v : Var)
    → (Contains (flat_map (λ (d : Demand). option_to_list (owner_of d)) (filter (λ (d : Demand). same_var d.target to) demands)) v) ↔ (HasEdge (edges_of demands) v to)
sources-of demands to v = (
  λ h.
      let from = contains-flat_map (λ (d : Demand). option_to_list (owner_of d)) (filter (λ (d : Demand). same_var d.target to) demands) v h in
      let kept = contains-filter (λ (d : Demand). same_var d.target to) demands from.0 from.1 in
      let edge = edge-of from.0.when from.0.target v from.2 in
      (edge.0, flat_map-contains edges_by demands from.0 edge.0 kept.0 edge.1, edge.2, edge.3 ∙ same_var-is from.0.target to kept.1),
  λ (e, h, leaves, enters).
      let from = contains-flat_map edges_by demands e h in
      let d = from.0 in
      let same : same_var d.target to ≡ true = subst (λ x. same_var d.target x ≡ true) (sym (edge-to d.when d.target e from.2) ∙ enters) (same_var-refl d.target) in
      let kept = filter-contains (λ (d : Demand). same_var d.target to) demands d from.1 same in
      flat_map-contains (λ (d : Demand). option_to_list (owner_of d)) (filter (λ (d : Demand). same_var d.target to) demands) d v kept
      (subst (λ x. Contains (option_to_list (owner_of d)) x) leaves (edge-owner d.when d.target e from.2)),
)

lies-by : (edges : List Edge) (when : List Choice) (target owner : Var) → first_of_condition when ≡ Some owner
    → leads_to_any edges (owner ∷ []) target ≡ list_any (λ (e : Edge). leads (length edges) edges e.to e.from) (edges_from when target)
lies-by edges [] target owner h = absurd (cc h)
lies-by edges (c ∷ others) target owner h = ap (λ v. leads_to_any edges (v ∷ []) target) (sym (cc h))

-- a demand lies on a cycle where its target leads to its owner
pub lies-led : (edges : List Edge) (d : Demand) (owner : Var) → owner_of d ≡ Some owner → leads_to_any edges (owner ∷ []) d.target ≡ lies_on_cycle edges d
lies-led edges d owner h = lies-by edges d.when d.target owner h

-- an edge of a demand, and a path back
record Ring (edges : List Edge) (d : Demand) : Type 0 where
  edge : Edge
  by : Contains (edges_by d) edge
  back : Way edges edge.to edge.from

ring-of : (edges : List Edge) (d : Demand) → lies_on_cycle edges d ≡ true → Ring edges d
ring-of edges d h =
    let found = any-at (λ (e : Edge). leads (length edges) edges e.to e.from) (edges_by d) h in
    record { edge = found.0; by = found.1; back = leads-way (length edges) edges found.0.to found.0.from found.2 }

ring-lies : (edges : List Edge) (d : Demand) → Ring edges d → lies_on_cycle edges d ≡ true
ring-lies edges d ring = any-from (λ (e : Edge). leads (length edges) edges e.to e.from) (edges_by d) ring.edge ring.by (way-leads edges ring.edge.to ring.edge.from ring.back)

listed-edge : (demands : List Demand) (d : Demand) (e : Edge) → Contains demands d → Contains (edges_by d) e → Contains (edges_of demands) e
listed-edge demands d e h k = flat_map-contains edges_by demands d e h k

leaves-end : (edges : List Edge) (v w : Var) → Way edges v w → (v ≡ w) ⊎ ((u : Var) × HasEdge edges v u)
leaves-end edges v w (start e) = inl e
leaves-end edges v w (step e h k way) = inr (e.to, (e, h, k, refl))

-- where no edge leaves the target there is no cycle
pub lies-ended : (demands : List Demand) (d : Demand) → Contains demands d → ((w : Var) → HasEdge (edges_of demands) d.target w → ⊥) → lies_on_cycle (edges_of demands) d ≡ false
lies-ended demands d h ends = false_from_ne_true (lies_on_cycle (edges_of demands) d) (λ lies.
    let ring = ring-of (edges_of demands) d lies in
    let to = edge-to d.when d.target ring.edge ring.by in
    elim (leaves-end (edges_of demands) ring.edge.to ring.edge.from ring.back) [
      | inl same ↦ ends ring.edge.to (ring.edge, listed-edge demands d ring.edge h ring.by, sym same ∙ to, refl)
      | inr on ↦ ends on.0 (subst (λ v. HasEdge (edges_of demands) v on.0) to on.1)
    ])

-- a walk has edges of the first kind alone, or one of the other
ways : (first other all : List Edge) → ((e : Edge) → Contains all e → Contains first e ⊎ Contains other e) → (v w : Var) → Way all v w
    → Way first v w ⊎ ((e : Edge) × Contains other e × Way all v e.from × Way all e.to w)
ways first other all kinds v w (start e) = inl (start e)
ways first other all kinds v w (step e h k way) =
    elim (ways first other all kinds e.to w way) [
      | inl rest ↦ elim (kinds e h) [
        | inl one ↦ inl (step e one k rest)
        | inr two ↦ inr (e, two, start (sym k), way)
      ]
      | inr (f, two, a, b) ↦ inr (f, two, step e h k a, b)
    ]

-- an owner of a demand on a cycle, to which one variable leads and that leads to another
pub record Hit (edges : List Edge) (demands : List Demand) (v u : Var) : Type 0 where
  pub owner : Var
  pub among : Contains (owners_on_cycles edges demands) owner
  pub way : Way edges v owner
  pub on : Way edges owner u

hit-by : (edges : List Edge) (demands : List Demand) (d : Demand) (v u : Var) → Contains demands d → (ring : Ring edges d) → Way edges v ring.edge.from → Way edges ring.edge.from u
    → Hit edges demands v u
hit-by edges demands d v u h ring way on =
    let kept = filter-contains (lies_on_cycle edges) demands d h (ring-lies edges d ring) in
    record {
      owner = ring.edge.from;
      among = flat_map-contains (λ (x : Demand). option_to_list (owner_of x)) (filter (lies_on_cycle edges) demands) d ring.edge.from kept (edge-owner d.when d.target ring.edge ring.by);
      way = way;
      on = on;
    }

kind-of : (olds news : List Demand) (e : Edge) → Contains (edges_of (olds ++ news)) e → Contains (edges_of olds) e ⊎ Contains (edges_of news) e
kind-of olds news e h =
    let from = contains-flat_map edges_by (olds ++ news) e h in
    elim (contains-append olds news from.0 from.1) [
      | inl k ↦ inl (listed-edge olds from.0 e k from.2)
      | inr k ↦ inr (listed-edge news from.0 e k from.2)
    ]

-- an owner of a demand, and one of a new demand on the same cycle
abbrev pub HitBy : List Edge → List Demand → Demand → Type 0
HitBy edges demands d = (u : Var) × Contains (option_to_list (owner_of d)) u × Hit edges demands d.target u

hit-joined : (olds news : List Demand) (d : Demand) → circular olds ≡ [] → Contains (olds ++ news) d → lies_on_cycle (edges_of (olds ++ news)) d ≡ true → HitBy (edges_of (olds ++ news)) news d
unfolding circular
hit-joined olds news d none h lies =
    let all = edges_of (olds ++ news) in
    let ring = ring-of all d lies in
    let to = edge-to d.when d.target ring.edge ring.by in (
      ring.edge.from,
      edge-owner d.when d.target ring.edge ring.by,
      subst (λ v. Hit all news v ring.edge.from) to (elim (ways (edges_of olds) (edges_of news) all (kind-of olds news) ring.edge.to ring.edge.from ring.back) [
        | inl old ↦ elim (contains-append olds news d h) [
          | inl k ↦ absurd (false≢true (
              sym (filter-none (lies_on_cycle (edges_of olds)) olds none d k)
              ∙ ring-lies (edges_of olds) d (record { edge = ring.edge; by = ring.by; back = old })))
          | inr k ↦ hit-by all news d ring.edge.to ring.edge.from k ring ring.back (start refl)
        ]
        | inr (e, new, a, b) ↦
            let from = contains-flat_map edges_by news e new in
            let listed = listed-edge (olds ++ news) from.0 e (contains-right olds news from.0 from.1) from.2 in
            let over : Way all ring.edge.from ring.edge.to = way-edge all ring.edge (listed-edge (olds ++ news) d ring.edge h ring.by) in
            let back : Way all e.to e.from = way-join all e.to ring.edge.from e.from b (way-join all ring.edge.from ring.edge.to e.from over a) in
            hit-by all news from.0 ring.edge.to ring.edge.from from.1 (record { edge = e; by = from.2; back = back }) a (step e listed refl b)
      ]),
    )

pub hit-of : (demands : List Demand) (n : ℕ) (d : Demand) → circular (take n demands) ≡ [] → Contains demands d → lies_on_cycle (edges_of demands) d ≡ true
    → HitBy (edges_of demands) (drop n demands) d
hit-of demands n d none h lies =
    let e = take-append-drop n demands in
    subst (λ l. HitBy (edges_of l) (drop n demands) d) e
    (hit-joined (take n demands) (drop n demands) d none (subst (λ l. Contains l d) (sym e) h) (subst (λ l. lies_on_cycle (edges_of l) d ≡ true) (sym e) lies))

empty-by : {X : Type 0} (xs : List X) → ((x : X) → Contains xs x → ⊥) → xs ≡ []
empty-by [] h = refl
empty-by (x ∷ xs) h = absurd (h x (contains-head x xs))

pub no-set : (demands : List Demand) (n : ℕ) (owners : List Var) → circular (take n demands) ≡ [] → owners ≡ owners_on_cycles (edges_of demands) (drop n demands) → length owners ≡ 0
    → set_of_all (circular demands) ≡ None
unfolding circular
no-set demands n owners none e empty =
    ap set_of_all (empty-by (circular demands) (λ d h.
    let found = contains-filter (lies_on_cycle (edges_of demands)) demands d h in
    let hit = (hit-of demands n d none found.0 found.1).2 in
    let among = subst (λ l. Contains l hit.owner) (sym e) hit.among in
    omega (arith, among.1, empty)))

set-some : (demands : List Demand) (d : Demand) → Contains demands d → set_of_all demands ≡ Some (set_of (flat_map named_by demands))
set-some [] d h = absurd (contains-none d h)
set-some (x ∷ demands) d h = refl

new-circular : (demands : List Demand) (n : ℕ) (v : Var) → Contains (owners_on_cycles (edges_of demands) (drop n demands)) v → (d : Demand) × Contains (circular demands) d
unfolding circular
new-circular demands n v h =
    let edges = edges_of demands in
    let from = contains-flat_map (λ (x : Demand). option_to_list (owner_of x)) (filter (lies_on_cycle edges) (drop n demands)) v h in
    let new = contains-filter (lies_on_cycle edges) (drop n demands) from.0 from.1 in
    (from.0, filter-contains (lies_on_cycle edges) demands from.0 (subst (λ l. Contains l from.0) (take-append-drop n demands) (contains-right (take n demands) (drop n demands) from.0 new.0)) new.1)

pub the-set : (demands : List Demand) (n : ℕ) (owners : List Var) → owners ≡ owners_on_cycles (edges_of demands) (drop n demands) → (length owners ≡ 0 → ⊥)
    → set_of_all (circular demands) ≡ Some (set_of (flat_map named_by (circular demands)))
the-set demands n [] e some = absurd (some refl)
the-set demands n (v ∷ owners) e some =
    let found = new-circular demands n v (subst (λ l. Contains l v) e (contains-head v owners)) in
    set-some (circular demands) found.0 found.1

-- one demand after another

drop-next : {X : Type 0} (xs : List X) (n : ℕ) (x : X) → slice_get xs n ≡ Some x → drop n xs ≡ x ∷ drop (n + 1) xs
drop-next xs n x e = drop_at xs n x (slice_get_within xs n x e) (sym (get_or_from_slice_get xs n x x e))

-- what each demand adds to a list made of those that pass
module _ (test : Demand → Bool) (f : Demand → List Var) where
  pub kept-one : (demands : List Demand) (n : ℕ) (d : Demand) (vars : List Var) → slice_get demands n ≡ Some d → test d ≡ true
      → (vars ++ f d) ++ flat_map f (filter test (drop (n + 1) demands)) ≡ vars ++ flat_map f (filter test (drop n demands))
  kept-one demands n d vars e lies =
      let rest = drop (n + 1) demands in
      append_assoc vars (f d) (flat_map f (filter test rest))
      ∙ sym (ap (λ l. vars ++ flat_map f (filter test l)) (drop-next demands n d e) ∙ ap (λ b. vars ++ flat_map f (cond b (d ∷ filter test rest) (filter test rest))) lies)

  pub left-one : (demands : List Demand) (n : ℕ) (d : Demand) (vars : List Var) → slice_get demands n ≡ Some d → test d ≡ false
      → vars ++ flat_map f (filter test (drop (n + 1) demands)) ≡ vars ++ flat_map f (filter test (drop n demands))
  left-one demands n d vars e lies =
      let rest = drop (n + 1) demands in
      sym (ap (λ l. vars ++ flat_map f (filter test l)) (drop-next demands n d e) ∙ ap (λ b. vars ++ flat_map f (cond b (d ∷ filter test rest) (filter test rest))) lies)

  pub kept-all : (demands : List Demand) (n : ℕ) (vars : List Var) → length demands ≤ n → vars ++ flat_map f (filter test (drop n demands)) ≡ vars
  kept-all demands n vars done = ap (λ l. vars ++ flat_map f (filter test l)) (drop_all n demands done) ∙ append-nil vars
