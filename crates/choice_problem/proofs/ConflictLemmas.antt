-- Shared: the set of a conflict admits none with the choice that conflicts, and a choice without a conflict breaks nothing.
use Rattle.std.proofs.Common.{◌≡◌, ℕ, Bool, true, false, cond, not, ◌&&◌, List, [], ◌∷◌, ◌++◌, length, get_or, Option, Some, None, refl, sym, ap, ◌∙◌, subst, inl, inr, ◌⊎◌, arith}
use Rattle.std.specs.Prelude.{is_some, find}
use Rattle.std.specs.List.{Contains, All, flat_map}
use Rattle.std.proofs.lemmas.Bool.{false≢true, not-true, not-false, eq-eqb, and_parts}
use Rattle.std.proofs.lemmas.List.Elements.{All-contains, Contains-get_or}
use Rattle.qualified_goals.specs.declared.variable.Var.{Var}
use Rattle.choice_problem.specs.declared.problem.Choice.{Choice}
use Rattle.choice_problem.specs.declared.problem.Demand.{Demand}
use Rattle.qualified_goals.specs.Variable.{same_var}
use Rattle.choice_problem.specs.Problem.{Problem, IsChoice, IsDemand, Lawful}
use Rattle.choice_problem.specs.Assignment.{Assignment, is_one_of, is_yes, is_met}
use Rattle.choice_problem.specs.General.{request_of, owner_of, general}
use Rattle.common_laws.specs.Graphs.{IsPath, last, more}
use Rattle.choice_problem.specs.Holds.{IsEdge, IsAsked, HoldsWithin}
use Rattle.choice_problem.specs.Trail.{value_in}
use Rattle.choice_problem.specs.Active.{made_active, active, vars_of}
use Rattle.choice_problem.specs.ConflictSet.{has, set_of}
use Rattle.choice_problem.specs.Conflict.{named_by, set_of_first, barred_set, refuses, refused_set, is_broken, broken_set, Edge, edges_from, edges_by, edges_of, leads, lies_on_cycle, circular, set_of_all, cycle_set, first_clash, set_of_pair, agreement_set, value_sets, first_set, lasting_sets, lasting_set, conflict}
use Rattle.choice_problem.specs.Sound.{MakesWithin, ConflictsAreSound}
use Rattle.qualified_goals.specs.SameVariable.{same_var-is, same_var-refl}
use Rattle.common_laws.specs.Lists.{contains-head, contains-tail, contains-none, contains-cases, contains-left, contains-right, contains-append, contains-flat_map, flat_map-contains, map-contains, contains-filter, filter-none, filter-contains, any-from, any-at, filter-nothing}
use Rattle.choice_problem.proofs.VariableSets.{contains-has, has-set_of}
use Rattle.choice_problem.proofs.FirstSets.{first-member, each-none, rest-none}
use Rattle.choice_problem.proofs.TrailLemmas.{value_in-new, demand-general}
use Rattle.choice_problem.proofs.EdgePaths.{Way, start, step, way-edge, way-join, leads-way, way-leads}
use Rattle.choice_problem.proofs.ActiveDemands.{find-is, find-none, yes-from, yes-kept, active-yes, active-demand, made-is, made-demand}
use Rattle.choice_problem.proofs.DemandPairs.{differ-are, clash-is}

-- the variables that a demand names are in its set

set-has : (vars set : List Var) (v : Var) → set_of vars ≡ set → Contains vars v → has set v ≡ true
set-has vars set v h k = ap (λ s. has s v) (sym h) ∙ has-set_of vars v ∙ contains-has vars v k

first-named : (o : Option Demand) (set : List Var) → set_of_first o ≡ Some set → (d : Demand) × (o ≡ Some d) × (set_of (named_by d) ≡ set)
first-named None set h = absurd (cc h)
first-named (Some d) set h = (d, refl, cc h)

all-named : (ds : List Demand) (set : List Var) → set_of_all ds ≡ Some set
    → (d : Demand) × Contains ds d × ((e : Demand) (v : Var) → Contains ds e → Contains (named_by e) v → has set v ≡ true)
all-named [] set h = absurd (cc h)
all-named (d ∷ ds) set h = (
  d,
  contains-head d ds,
  λ e v k named. set-has (flat_map named_by (d ∷ ds)) set v (cc h) (flat_map-contains named_by (d ∷ ds) e v k named),
)

pub none-named : (ds : List Demand) → set_of_all ds ≡ None → ds ≡ []
none-named [] h = refl
none-named (d ∷ ds) h = absurd (cc h)

pair-named : (o : Option (Demand × Demand)) (set : List Var) → set_of_pair o ≡ Some set → (d : Demand) × (e : Demand) × (o ≡ Some (d, e)) × (set_of (named_by d ++ named_by e) ≡ set)
pair-named None set h = absurd (cc h)
pair-named (Some (d, e)) set h = (d, e, refl, cc h)

none-paired : (o : Option (Demand × Demand)) → set_of_pair o ≡ None → o ≡ None
none-paired None h = refl
none-paired (Some (d, e)) h = absurd (cc h)

none-first : (o : Option Demand) → set_of_first o ≡ None → o ≡ None
none-first None h = refl
none-first (Some d) h = absurd (cc h)

pub all-front : {X : Type 0} (P : X → Type 0) (xs ys : List X) → All P (xs ++ ys) → All P xs
all-front P xs ys all k d h = All-contains P (xs ++ ys) (get_or xs k d) all (contains-left xs ys (get_or xs k d) (Contains-get_or xs k d h))

-- the edge of a demand leads from its owner to its target

pub edge-of : (condition : List Choice) (target : Var) (e : Edge) → Contains (edges_from condition target) e
    → (owner : Choice) × (owner_of condition ≡ Some owner) × (owner.var ≡ e.from) × (target ≡ e.to)
edge-of [] target e h = absurd (contains-none e h)
edge-of (owner ∷ others) target e h =
    elim (contains-cases (record { from = owner.var; to = target }) [] e h) [
      | inl same ↦ (owner, refl, ap (λ (x : Edge). x.from) same, ap (λ (x : Edge). x.to) same)
      | inr none ↦ absurd (contains-none e none)
    ]

pub of-edge : (condition : List Choice) (target : Var) (owner : Choice) → owner_of condition ≡ Some owner
    → Contains (edges_from condition target) (record { from = owner.var; to = target })
of-edge [] target owner h = absurd (cc h)
of-edge (c ∷ others) target owner h =
    let same : c ≡ owner = cc h in
    subst (λ (x : Choice). Contains (edges_from (c ∷ others) target) (record { from = x.var; to = target })) same (contains-head (record { from = c.var; to = target }) [])

circular-is : (ds : List Demand) (d : Demand) → Contains (circular ds) d → Contains ds d × (lies_on_cycle (edges_of ds) d ≡ true)
unfolding circular
circular-is ds d h = contains-filter (lies_on_cycle (edges_of ds)) ds d h

circular-from : (ds : List Demand) (d : Demand) → Contains ds d → lies_on_cycle (edges_of ds) d ≡ true → Contains (circular ds) d
unfolding circular
circular-from ds d h k = filter-contains (lies_on_cycle (edges_of ds)) ds d h k

circular-none : (ds : List Demand) (d : Demand) → circular ds ≡ [] → Contains ds d → lies_on_cycle (edges_of ds) d ≡ false
unfolding circular
circular-none ds d h k = filter-none (lies_on_cycle (edges_of ds)) ds h d k

-- where no demand lies on a cycle none is circular
pub acyclic-none : (ds : List Demand) → ((d : Demand) → Contains ds d → lies_on_cycle (edges_of ds) d ≡ false) → circular ds ≡ []
unfolding circular
acyclic-none ds h = filter-nothing (lies_on_cycle (edges_of ds)) ds h

module _ (p : Problem) (lawful : Lawful p) where
  -- an assignment that holds within a set, and makes the choices of a trail within it

  module _ (set : List Var) (trail : List Choice) (A : Assignment) (holds : HoldsWithin (general p) (has set) A) (makes : MakesWithin set trail A) where
    pub yes-within : (d : Demand) → ((v : Var) → Contains (vars_of d.when) v → has set v ≡ true) → is_yes (value_in trail) d ≡ true → is_yes A d ≡ true
    yes-within d inside h =
        yes-from (value_in trail) A d (λ c k e. makes c.var c.val (inside c.var (map-contains (λ (x : Choice). x.var) d.when c k)) e) h

    named-yes : (d : Demand) → ((v : Var) → Contains (named_by d) v → has set v ≡ true) → is_yes (value_in trail) d ≡ true → is_yes A d ≡ true
    named-yes d inside h = yes-within d (λ v k. inside v (contains-tail d.target (vars_of d.when) v k)) h

    -- a demand that names variables of the set alone, and is Yes under the trail, is met
    named-met : (d : Demand) → IsDemand p d → ((v : Var) → Contains (named_by d) v → has set v ≡ true) → is_yes (value_in trail) d ≡ true → is_one_of (A d.target) d.allowed ≡ true
    named-met d is inside h =
        holds.met (request_of d) (demand-general p d is) (named-yes d inside h) (inside d.target (contains-head d.target (vars_of d.when)))

    named-asked : (d : Demand) → IsDemand p d → ((v : Var) → Contains (named_by d) v → has set v ≡ true) → is_yes (value_in trail) d ≡ true → IsAsked (general p) (has set) A (request_of d)
    named-asked d is inside h = record {
      demand = demand-general p d is;
      yes = named-yes d inside h;
      inside = inside d.target (contains-head d.target (vars_of d.when));
    }

    module _ (ds : List Demand) (asked : (d : Demand) → Contains ds d → IsDemand p d × (is_yes (value_in trail) d ≡ true))
        (inside : (d : Demand) (v : Var) → Contains (circular ds) d → Contains (named_by d) v → has set v ≡ true) where
      abbrev Edges : List Edge
      Edges = edges_of ds

      abbrev Holding : Var → Var → Type 0
      Holding = IsEdge (general p) (has set) A

      -- an edge on a cycle is one of A
      edge-holds : (e : Edge) → Contains Edges e → Way Edges e.to e.from → Holding e.from e.to
      edge-holds e h way =
          let found = contains-flat_map edges_by ds e h in
          let d = found.0 in
          let lies = any-from (λ (x : Edge). leads (length Edges) Edges x.to x.from) (edges_by d) e found.2 (way-leads Edges e.to e.from way) in
          let named = inside d in
          let on = circular-from ds d found.1 lies in
          let of = edge-of d.when d.target e found.2 in
          record {
            request = request_of d;
            owner = of.0;
            demand = demand-general p d (asked d found.1).0;
            owner_is = of.1;
            yes = named-yes d (λ v k. named v on k) (asked d found.1).1;
            inside = named d.target on (contains-head d.target (vars_of d.when));
            leaves = of.2;
            enters = of.3;
          }

      -- a way there and back is a path of A
      way-path : (v w : Var) → Way Edges v w → Way Edges w v → (v ≡ w) ⊎ IsPath Holding v w
      way-path v w (start e) back = inl e
      way-path v w (step e h k way) back =
          let here = edge-holds e h (way-join Edges e.to w e.from way (subst (λ x. Way Edges w x) (sym k) back)) in
          let edge = subst (λ x. Holding x e.to) k here in
          elim (way-path e.to w way (way-join Edges w v e.to back (step e h k (start refl)))) [
            | inl same ↦ inr (last (subst (λ x. Holding v x) same edge))
            | inr path ↦ inr (more edge path)
          ]

      no-circular : (d : Demand) → Contains (circular ds) d → ⊥
      no-circular d h =
          let is = circular-is ds d h in
          let found = any-at (λ (x : Edge). leads (length Edges) Edges x.to x.from) (edges_by d) is.1 in
          let e = found.0 in
          let member = flat_map-contains edges_by ds d e is.0 found.1 in
          let way = leads-way (length Edges) Edges e.to e.from found.2 in
          let edge = edge-holds e member way in
          holds.acyclic e.from
          (elim (way-path e.to e.from way (way-edge Edges e member)) [
            | inl same ↦ last (subst (λ x. Holding e.from x) same edge)
            | inr path ↦ more edge path
          ])

  -- the rules, one by one

  module _ (trail : List Choice) (c : Choice) (set : List Var) (choices : All (IsChoice p) (trail ++ c ∷ [])) (front : All (IsChoice p) trail) (unchosen : value_in trail c.var ≡ None)
      (A : Assignment) (holds : HoldsWithin (general p) (has set) A) (makes : MakesWithin set (trail ++ c ∷ []) A) where
    made-last : has set c.var ≡ true → A c.var ≡ Some c.val
    made-last h = makes c.var c.val h (value_in-new trail [] c.var c.val unchosen)

    barred-sound : barred_set p c ≡ Some set → ⊥
    barred-sound h =
        elim (p.barred c) as (λ b. p.barred c ≡ b → cond b (Some (set_of (c.var ∷ []))) None ≡ Some set → ⊥) [
          | true ↦ λ is k. false≢true (sym (holds.unbarred c (made-last (set-has (c.var ∷ []) set c.var (cc k) (contains-head c.var [])))) ∙ is)
          | false ↦ λ is k. cc k
        ] refl h

    refused-sound : refused_set p trail c ≡ Some set → ⊥
    refused-sound h =
        let first = first-named (find (refuses c) (active p trail)) set h in
        let d = first.0 in
        let inside = λ (v : Var) (k : Contains (named_by d) v). set-has (named_by d) set v first.2 k in
        let found = find-is (refuses c) (active p trail) d first.1 in
        let same = same_var-is d.target c.var ((and_parts (same_var d.target c.var) (not (is_one_of (Some c.val) d.allowed)) found.1).0) in
        let refused = not-true (is_one_of (Some c.val) d.allowed) ((and_parts (same_var d.target c.var) (not (is_one_of (Some c.val) d.allowed)) found.1).1) in
        let met = named-met set (trail ++ c ∷ []) A holds makes d (active-demand p lawful trail d front found.0) inside
        (yes-kept trail (c ∷ []) d (active-yes p lawful trail d found.0)) in
        let chosen = ap A same ∙ made-last (subst (λ v. has set v ≡ true) same (inside d.target (contains-head d.target (vars_of d.when)))) in
        false≢true (sym refused ∙ ap (λ o. is_one_of o d.allowed) (sym chosen) ∙ met)

    broken-sound : broken_set p trail c ≡ Some set → ⊥
    broken-sound h =
        let after = trail ++ c ∷ [] in
        let first = first-named (find (is_broken after) (made_active p trail c)) set h in
        let d = first.0 in
        let inside = λ (v : Var) (k : Contains (named_by d) v). set-has (named_by d) set v first.2 k in
        let found = find-is (is_broken after) (made_active p trail c) d first.1 in
        let unmet = not-true (is_met (value_in after) d) ((and_parts (is_some (value_in after d.target)) (not (is_met (value_in after) d)) found.1).1) in
        let met = named-met set after A holds makes d (made-demand p lawful trail c d choices found.0) inside (made-is p trail c d found.0).1 in
        elim (value_in after d.target) as (λ o. value_in after d.target ≡ o → is_some o ≡ true → ⊥) [
          | None ↦ λ e k. false≢true k
          | Some n ↦ λ e k.
              let chosen = makes d.target n (inside d.target (contains-head d.target (vars_of d.when))) e in
              false≢true (sym unmet ∙ ap (λ o. is_one_of o d.allowed) (e ∙ sym chosen) ∙ met)
        ] refl ((and_parts (is_some (value_in after d.target)) (not (is_met (value_in after) d)) found.1).0)

    cycle-sound : cycle_set (active p (trail ++ c ∷ [])) ≡ Some set → ⊥
    cycle-sound h =
        let after = trail ++ c ∷ [] in
        let all = all-named (circular (active p after)) set h in
        no-circular set after A holds makes (active p after)
        (λ d k. (active-demand p lawful after d choices k, active-yes p lawful after d k))
        all.2 all.0 all.1

    agreement-sound : agreement_set (trail ++ c ∷ []) (active p (trail ++ c ∷ [])) ≡ Some set → ⊥
    agreement-sound h =
        let after = trail ++ c ∷ [] in
        let (d, e, is, all) = pair-named (first_clash after (active p after)) set h in
        let clash = clash-is after (active p after) d e is in
        let first = λ (v : Var) (k : Contains (named_by d) v). set-has (named_by d ++ named_by e) set v all (contains-left (named_by d) (named_by e) v k) in
        let second = λ (v : Var) (k : Contains (named_by e) v). set-has (named_by d ++ named_by e) set v all (contains-right (named_by d) (named_by e) v k) in
        let asked = λ (x : Demand) (on : Contains (active p after) x) (inside : (v : Var) → Contains (named_by x) v → has set v ≡ true).
        named-asked set after A holds makes x (active-demand p lawful after x choices on) inside (active-yes p lawful after x on) in
        let values = differ-are (value_in after d.target) (value_in after e.target) clash.apart.values in
        let of-first = makes d.target values.first (first d.target (contains-head d.target (vars_of d.when))) values.first_is in
        let of-second = makes e.target values.second (second e.target (contains-head e.target (vars_of e.when))) values.second_is in
        let same : Some values.first ≡ Some values.second =
        sym of-first ∙ holds.agree (request_of d) (request_of e) (asked d clash.earlier first) (asked e clash.later second) clash.apart.must ∙ of-second in
        false≢true (sym values.apart ∙ eq-eqb values.first values.second cc)

    -- what a rule gives isn't the set
    abbrev IsOther : Option (List Var) → Type 0
    IsOther o = o ≡ Some set → ⊥

    value-sound : (o : Option (List Var)) → Contains (value_sets p trail c) o → IsOther o
    value-sound o k =
        elim (contains-cases (barred_set p c) (refused_set p trail c ∷ broken_set p trail c ∷ []) o k) [
          | inl e ↦ subst IsOther e barred-sound
          | inr r ↦ elim (contains-cases (refused_set p trail c) (broken_set p trail c ∷ []) o r) [
            | inl e ↦ subst IsOther e refused-sound
            | inr s ↦ elim (contains-cases (broken_set p trail c) [] o s) [
              | inl e ↦ subst IsOther e broken-sound
              | inr none ↦ absurd (contains-none o none)
            ]
          ]
        ]

    lasting-sound : (o : Option (List Var)) → Contains (lasting_sets (trail ++ c ∷ []) (active p (trail ++ c ∷ []))) o → IsOther o
    lasting-sound o k =
        let after = trail ++ c ∷ [] in
        elim (contains-cases (cycle_set (active p after)) (agreement_set after (active p after) ∷ []) o k) [
          | inl e ↦ subst IsOther e cycle-sound
          | inr r ↦ elim (contains-cases (agreement_set after (active p after)) [] o r) [
            | inl e ↦ subst IsOther e agreement-sound
            | inr none ↦ absurd (contains-none o none)
          ]
        ]

    sound : conflict p trail c ≡ Some set → ⊥
    unfolding conflict
    sound h =
        let of_value = value_sets p trail c in
        let lasting = lasting_sets (trail ++ c ∷ []) (active p (trail ++ c ∷ [])) in
        elim (contains-append of_value lasting (Some set) (first-member (of_value ++ lasting) set h)) [
          | inl l ↦ value-sound (Some set) l refl
          | inr r ↦ lasting-sound (Some set) r refl
        ]

  pub conflicts-sound : ConflictsAreSound p
  conflicts-sound trail c set choices unchosen h A holds makes =
      sound trail c set choices (all-front (IsChoice p) trail (c ∷ []) choices) unchosen A holds makes h

-- a choice without a conflict

pub and-false : (a b : Bool) → a && b ≡ false → a ≡ true → b ≡ false
and-false true b h k = h
and-false false b h k = absurd (false≢true k)

-- where the lasting rules give no set, no demand lies on a cycle
pub lasting-circular : (trail : List Choice) (ds : List Demand) → lasting_set trail ds ≡ None → circular ds ≡ []
lasting-circular trail ds h = none-named (circular ds) (each-none (lasting_sets trail ds) (cycle_set ds) h (contains-head (cycle_set ds) (agreement_set trail ds ∷ [])))

pub lasting-acyclic : (trail : List Choice) (ds : List Demand) → lasting_set trail ds ≡ None → (d : Demand) → Contains ds d → lies_on_cycle (edges_of ds) d ≡ false
lasting-acyclic trail ds h d k = circular-none ds d (lasting-circular trail ds h) k

-- no two demands that must agree have different values
pub lasting-agree : (trail : List Choice) (ds : List Demand) → lasting_set trail ds ≡ None → first_clash trail ds ≡ None
lasting-agree trail ds h =
    none-paired (first_clash trail ds) (each-none (lasting_sets trail ds) (agreement_set trail ds) h
    (contains-tail (cycle_set ds) (agreement_set trail ds ∷ []) (agreement_set trail ds) (contains-head (agreement_set trail ds) [])))

-- without such a cycle or pair, the lasting rules give no set
pub lasting-none : (trail : List Choice) (ds : List Demand) → circular ds ≡ [] → first_clash trail ds ≡ None → lasting_set trail ds ≡ None
lasting-none trail ds h k = ap (λ es. first_set (set_of_all es ∷ agreement_set trail ds ∷ [])) h ∙ ap (λ o. first_set (set_of_pair o ∷ [])) k

module _ (p : Problem) where
  -- the choice breaks none of the rules
  pub record IsFree (trail : List Choice) (c : Choice) : Type 0 where
    pub unbarred : p.barred c ≡ false
    pub allowed : (d : Demand) → Contains (active p trail) d → d.target ≡ c.var → is_one_of (Some c.val) d.allowed ≡ true
    pub kept : (d : Demand) (n : ℕ) → Contains (made_active p trail c) d → value_in (trail ++ c ∷ []) d.target ≡ Some n → is_one_of (Some n) d.allowed ≡ true
    pub lasting : lasting_set (trail ++ c ∷ []) (active p (trail ++ c ∷ [])) ≡ None

  value-none : (trail : List Choice) (c : Choice) → conflict p trail c ≡ None → (o : Option (List Var)) → Contains (value_sets p trail c) o → o ≡ None
  unfolding conflict
  value-none trail c h o k =
      let lasting = lasting_sets (trail ++ c ∷ []) (active p (trail ++ c ∷ [])) in
      each-none (value_sets p trail c ++ lasting) o h (contains-left (value_sets p trail c) lasting o k)

  after-none : (trail : List Choice) (c : Choice) → conflict p trail c ≡ None → lasting_set (trail ++ c ∷ []) (active p (trail ++ c ∷ [])) ≡ None
  unfolding conflict
  after-none trail c h = rest-none (value_sets p trail c) (lasting_sets (trail ++ c ∷ []) (active p (trail ++ c ∷ []))) h

  pub free : (trail : List Choice) (c : Choice) → conflict p trail c ≡ None → IsFree trail c
  free trail c h =
      let after = trail ++ c ∷ [] in
      let barred = value-none trail c h (barred_set p c) (0, omega arith, refl) in
      let refused = none-first (find (refuses c) (active p trail)) (value-none trail c h (refused_set p trail c) (1, omega arith, refl)) in
      let broken = none-first (find (is_broken after) (made_active p trail c)) (value-none trail c h (broken_set p trail c) (2, omega arith, refl)) in
      record {
        unbarred = elim (p.barred c) as (λ b. cond b (Some (set_of (c.var ∷ []))) None ≡ None → b ≡ false) [ true ↦ λ k. absurd (cc k) | false ↦ λ k. refl ] barred;
        allowed = λ d k same.
            not-false (is_one_of (Some c.val) d.allowed)
            (and-false (same_var d.target c.var) (not (is_one_of (Some c.val) d.allowed)) (find-none (refuses c) (active p trail) d refused k)
            (subst (λ v. same_var d.target v ≡ true) same (same_var-refl d.target)));
        kept = λ d n k e.
            not-false (is_one_of (Some n) d.allowed)
            (subst (λ o. is_some o && not (is_one_of o d.allowed) ≡ false) e (find-none (is_broken after) (made_active p trail c) d broken k));
        lasting = after-none trail c h;
      }
