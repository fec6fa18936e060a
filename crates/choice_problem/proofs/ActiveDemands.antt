-- Shared: the active demands of a trail: those that are Yes, in the order in which they became Yes.
use Rattle.std.proofs.Common.{◌≡◌, ℕ, Bool, true, false, cond, not, List, [], ◌∷◌, ◌++◌, map, Option, Some, None, refl, sym, ap, ◌∙◌, subst, inl, inr, ◌⊎◌, append_assoc}
use Rattle.std.specs.Prelude.{is_none, find, IfSome}
use Rattle.std.specs.List.{Contains, All, filter, flat_map, list_all}
use Rattle.std.proofs.lemmas.Bool.{false≢true, and_parts, and_from}
use Rattle.std.proofs.lemmas.List.{append-nil}
use Rattle.std.proofs.lemmas.List.Elements.{All-contains}
use Rattle.qualified_goals.specs.declared.variable.Var.{Var}
use Rattle.choice_problem.specs.declared.problem.Choice.{Choice}
use Rattle.choice_problem.specs.declared.problem.Demand.{Demand}
use Rattle.qualified_goals.specs.Variable.{same_var, is_before}
use Rattle.choice_problem.specs.ConflictSet.{has, first_behind}
use Rattle.choice_problem.specs.Problem.{Problem, IsChoice, IsDemand, IsRoot, IsOwned, Lawful}
use Rattle.choice_problem.specs.Assignment.{Assignment, is_made, is_yes}
use Rattle.choice_problem.specs.General.{Request, request_of, general}
use Rattle.choice_problem.specs.Trail.{value_in, demands_after, opens, open_vars}
use Rattle.choice_problem.specs.Active.{turns_yes, made_active, active_from, active, is_waited_for, open_in, is_open, least_open, waiting, vars_of, asks_for, vars_of_first, reason}
use Rattle.qualified_goals.specs.SameVariable.{same_var-is, same_var-refl}
use Rattle.common_laws.specs.Lists.{contains-head, contains-tail, contains-none, contains-cases, contains-left, contains-right, contains-append, contains-flat_map, flat_map-contains, contains-map, map-contains, contains-filter, all-at, all-from, filter-contains}
use Rattle.choice_problem.proofs.VariableSets.{contains-has, first-has, set-alike}
use Rattle.choice_problem.proofs.TrailLemmas.{value_in-made, value_in-kept, is_made-is, is_made-from, none-is, targets_open, open-is, next-open, demand-after, after-general, after-plain, owner-made}

-- the first item that passes

pub find-is : {X : Type 0} (test : X → Bool) (xs : List X) (x : X) → find test xs ≡ Some x → Contains xs x × (test x ≡ true)
find-is test [] x h = absurd (cc h)
find-is test (y ∷ xs) x h =
    elim (test y) as (λ b. test y ≡ b → cond b (Some y) (find test xs) ≡ Some x → Contains (y ∷ xs) x × (test x ≡ true)) [
      | true ↦ λ is k. let same : y ≡ x = cc k in (subst (λ z. Contains (y ∷ xs) z) same (contains-head y xs), subst (λ z. test z ≡ true) same is)
      | false ↦ λ is k. let found = find-is test xs x k in (contains-tail y xs x found.0, found.1)
    ] refl h

pub find-none : {X : Type 0} (test : X → Bool) (xs : List X) (x : X) → find test xs ≡ None → Contains xs x → test x ≡ false
find-none test [] x h k = absurd (contains-none x k)
find-none test (y ∷ xs) x h k =
    elim (test y) as (λ b. test y ≡ b → cond b (Some y) (find test xs) ≡ None → test x ≡ false) [
      | true ↦ λ is e. absurd (cc e)
      | false ↦ λ is e. elim (contains-cases y xs x k) [ inl same ↦ subst (λ z. test z ≡ false) same is | inr r ↦ find-none test xs x e r ]
    ] refl h

-- where one passes, one is found
pub find-some : {X : Type 0} (test : X → Bool) (xs : List X) (x : X) → Contains xs x → test x ≡ true → (y : X) × (find test xs ≡ Some y)
find-some {X = X} test xs x h k =
    elim (find test xs) as (λ o. find test xs ≡ o → (y : X) × (o ≡ Some y)) [
      | None ↦ λ e. absurd (false≢true (sym (find-none test xs x e h) ∙ k))
      | Some y ↦ λ e. (y, refl)
    ] refl

-- where none passes, none is found
pub find-nothing : {X : Type 0} (test : X → Bool) (xs : List X) → ((x : X) → Contains xs x → test x ≡ false) → find test xs ≡ None
find-nothing test [] h = refl
find-nothing test (y ∷ xs) h =
    ap (λ b. cond b (Some y) (find test xs)) (h y (contains-head y xs)) ∙ find-nothing test xs (λ x k. h x (contains-tail y xs x k))

-- the first behind a variable is one of them
pub behind-has : (v : Option Var) (vars : List Var) (w : Var) → first_behind v vars ≡ Some w → has vars w ≡ true
behind-has None vars w h = first-has vars w h
behind-has (Some v) vars w h = contains-has vars w (find-is (is_before v) vars w h).0

pub some-behind : (v : Option Var) (vars : List Var) (o : Option Var) → o ≡ first_behind v vars → IfSome o (λ w. has vars w ≡ true)
some-behind v vars None h = tt
some-behind v vars (Some w) h = behind-has v vars w (sym h)

-- a value that one choice more gives was there, or is that choice's
pub value_in-last : (trail : List Choice) (c : Choice) (v : Var) (n : ℕ) → value_in (trail ++ c ∷ []) v ≡ Some n → (value_in trail v ≡ Some n) ⊎ ((c.var ≡ v) × (c.val ≡ n))
value_in-last [] c v n h =
    elim (same_var c.var v) as (λ b. same_var c.var v ≡ b → cond b (Some c.val) None ≡ Some n → (None ≡ Some n) ⊎ ((c.var ≡ v) × (c.val ≡ n))) [
      | true ↦ λ same k. inr (same_var-is c.var v same, cc k)
      | false ↦ λ same k. inl k
    ] refl h
value_in-last (d ∷ trail) c v n h =
    elim (same_var d.var v) as (λ b. cond b (Some d.val) (value_in (trail ++ c ∷ []) v) ≡ Some n → (cond b (Some d.val) (value_in trail v) ≡ Some n) ⊎ ((c.var ≡ v) × (c.val ≡ n))) [
      | true ↦ λ k. inl k
      | false ↦ λ k. value_in-last trail c v n k
    ] h

-- a demand that is Yes stays so where the choices of its condition are made
pub yes-from : (A B : Assignment) (d : Demand) → ((c : Choice) → Contains d.when c → A c.var ≡ Some c.val → B c.var ≡ Some c.val) → is_yes A d ≡ true → is_yes B d ≡ true
yes-from A B d more h =
    all-from (is_made B) d.when (λ c k. is_made-from B c (more c k (is_made-is A c (all-at (is_made A) d.when c h k))))

pub yes-kept : (trail more : List Choice) (d : Demand) → is_yes (value_in trail) d ≡ true → is_yes (value_in (trail ++ more)) d ≡ true
yes-kept trail more d h = yes-from (value_in trail) (value_in (trail ++ more)) d (λ c k e. value_in-kept trail more c.var c.val e) h

-- a demand with a condition isn't Yes before anything is chosen
yes-before : (owner : Choice) (others : List Choice) (d : Demand) → d.when ≡ owner ∷ others → is_yes (value_in []) d ≡ false
yes-before owner others d h = ap (list_all (is_made (value_in []))) h

module _ (p : Problem) where
  active_from-push : (before rest : List Choice) (c : Choice) → active_from p before (rest ++ c ∷ []) ≡ active_from p before rest ++ made_active p (before ++ rest) c
  active_from-push before [] c = append-nil (made_active p before c) ∙ ap (λ t. made_active p t c) (sym (append-nil before))
  active_from-push before (d ∷ rest) c =
      ap (λ l. made_active p before d ++ l)
      (active_from-push (before ++ d ∷ []) rest c ∙ ap (λ t. active_from p (before ++ d ∷ []) rest ++ made_active p t c) (append_assoc before (d ∷ []) rest))
      ∙ sym (append_assoc (made_active p before d) (active_from p (before ++ d ∷ []) rest) (made_active p (before ++ d ∷ rest) c))

  -- with one choice more those are active that it makes so
  pub active-push : (trail : List Choice) (c : Choice) → active p (trail ++ c ∷ []) ≡ active p trail ++ made_active p trail c
  unfolding active
  active-push trail c = ap (λ l. p.roots ++ l) (active_from-push [] trail c) ∙ sym (append_assoc p.roots (active_from p [] trail) (made_active p trail c))

  after-more : (trail more : List Choice) (d : Demand) → Contains (demands_after p trail) d → Contains (demands_after p (trail ++ more)) d
  after-more trail more d h =
      elim (contains-append p.roots (flat_map p.demands trail) d h) [
        | inl l ↦ contains-left p.roots (flat_map p.demands (trail ++ more)) d l
        | inr r ↦
            let found = contains-flat_map p.demands trail d r in
            contains-right p.roots (flat_map p.demands (trail ++ more)) d
            (flat_map-contains p.demands (trail ++ more) found.0 d (contains-left trail more found.0 found.1) found.2)
      ]

  pub made-is : (trail : List Choice) (c : Choice) (d : Demand) → Contains (made_active p trail c) d
      → Contains (demands_after p (trail ++ c ∷ [])) d × (is_yes (value_in (trail ++ c ∷ [])) d ≡ true)
  unfolding made_active
  made-is trail c d h =
      let found = contains-filter (turns_yes trail c) (demands_after p (trail ++ c ∷ [])) d h in
      (found.0, (and_parts (is_yes (value_in (trail ++ c ∷ [])) d) (not (is_yes (value_in trail) d)) found.1).0)

  pub made-from : (trail : List Choice) (c : Choice) (d : Demand) → Contains (demands_after p (trail ++ c ∷ [])) d → is_yes (value_in (trail ++ c ∷ [])) d ≡ true → is_yes (value_in trail) d ≡ false
      → Contains (made_active p trail c) d
  unfolding made_active
  made-from trail c d h now_yes not_before =
      filter-contains (turns_yes trail c) (demands_after p (trail ++ c ∷ [])) d h
      (and_from (is_yes (value_in (trail ++ c ∷ [])) d) (not (is_yes (value_in trail) d)) now_yes (ap not not_before))

  -- a demand so far that is Yes
  abbrev IsActive : List Choice → Demand → Type 0
  IsActive trail d = Contains (demands_after p trail) d × (is_yes (value_in trail) d ≡ true)

  active-more : (trail more : List Choice) (d : Demand) → IsActive trail d → IsActive (trail ++ more) d
  active-more trail more d h = (after-more trail more d h.0, yes-kept trail more d h.1)

  active_from-is : (before rest : List Choice) (d : Demand) → Contains (active_from p before rest) d → IsActive (before ++ rest) d
  active_from-is before [] d h = absurd (contains-none d h)
  active_from-is before (c ∷ rest) d h =
      subst (λ t. IsActive t d) (append_assoc before (c ∷ []) rest)
      (elim (contains-append (made_active p before c) (active_from p (before ++ c ∷ []) rest) d h) [
        | inl l ↦ active-more (before ++ c ∷ []) rest d (made-is before c d l)
        | inr r ↦ active_from-is (before ++ c ∷ []) rest d r
      ])

  active_from-yes : (d : Demand) → ((t : List Choice) → is_yes (value_in t) d ≡ true → Contains (demands_after p t) d)
      → (before rest : List Choice) → is_yes (value_in before) d ≡ false → is_yes (value_in (before ++ rest)) d ≡ true → Contains (active_from p before rest) d
  active_from-yes d after before [] not_before now_yes = absurd (false≢true (sym not_before ∙ ap (λ t. is_yes (value_in t) d) (sym (append-nil before)) ∙ now_yes))
  active_from-yes d after before (c ∷ rest) not_before now_yes =
      elim (is_yes (value_in (before ++ c ∷ [])) d) as (λ b. is_yes (value_in (before ++ c ∷ [])) d ≡ b → Contains (made_active p before c ++ active_from p (before ++ c ∷ []) rest) d) [
        | true ↦ λ e. contains-left (made_active p before c) (active_from p (before ++ c ∷ []) rest) d (made-from before c d (after (before ++ c ∷ []) e) e not_before)
        | false ↦ λ e.
            contains-right (made_active p before c) (active_from p (before ++ c ∷ []) rest) d
            (active_from-yes d after (before ++ c ∷ []) rest e (subst (λ t. is_yes (value_in t) d ≡ true) (sym (append_assoc before (c ∷ []) rest)) now_yes))
      ] refl

module _ (p : Problem) (lawful : Lawful p) where
  -- an active demand is one of those so far, and Yes
  pub active-is : (trail : List Choice) (d : Demand) → Contains (active p trail) d → Contains (demands_after p trail) d × (is_yes (value_in trail) d ≡ true)
  unfolding active
  active-is trail d h =
      elim (contains-append p.roots (active_from p [] trail) d h) [
        | inl root ↦ (
          contains-left p.roots (flat_map p.demands trail) d root,
          ap (list_all (is_made (value_in trail))) (All-contains (IsRoot p) p.roots d lawful.roots root).condition,
        )
        | inr r ↦ active_from-is p [] trail d r
      ]

  pub active-yes : (trail : List Choice) (d : Demand) → Contains (active p trail) d → is_yes (value_in trail) d ≡ true
  active-yes trail d h = (active-is trail d h).1

  pub active-demand : (trail : List Choice) (d : Demand) → All (IsChoice p) trail → Contains (active p trail) d → IsDemand p d
  active-demand trail d choices h = demand-after p trail d choices (active-is trail d h).0

  pub made-demand : (trail : List Choice) (c : Choice) (d : Demand) → All (IsChoice p) (trail ++ c ∷ []) → Contains (made_active p trail c) d → IsDemand p d
  made-demand trail c d choices h = demand-after p (trail ++ c ∷ []) d choices (made-is p trail c d h).0

  -- a demand that is Yes is active
  pub yes-active : (trail : List Choice) (d : Demand) → IsDemand p d → is_yes (value_in trail) d ≡ true → Contains (active p trail) d
  unfolding active
  yes-active trail d (inl root) now_yes = contains-left p.roots (active_from p [] trail) d root
  yes-active trail d (inr (owner, is, owns)) now_yes =
      let owned = All-contains (IsOwned p owner) (p.demands owner) d (lawful.demands owner is) owns in
      contains-right p.roots (active_from p [] trail) d
      (active_from-yes p d
      (λ t e. contains-right p.roots (flat_map p.demands t) d
      (flat_map-contains p.demands t owner d (value_in-made t owner.var owner.val (owner-made p (value_in t) owner d owned e)) owns))
      [] trail (yes-before owner owned.others d owned.condition) now_yes)

  -- a demand that is Yes, and wasn't so before the last choice, is one that this choice makes active
  pub yes-made : (trail : List Choice) (c : Choice) (d : Demand) → IsDemand p d → is_yes (value_in (trail ++ c ∷ [])) d ≡ true → is_yes (value_in trail) d ≡ false
      → Contains (made_active p trail c) d
  yes-made trail c d is now_yes not_before =
      elim (contains-append (active p trail) (made_active p trail c) d (subst (λ l. Contains l d) (active-push p trail c) (yes-active (trail ++ c ∷ []) d is now_yes))) [
        | inl l ↦ absurd (false≢true (sym not_before ∙ active-yes trail d l))
        | inr r ↦ r
      ]

  -- v isn't chosen yet, and is the target of an active demand
  pub record IsOpen (trail : List Choice) (v : Var) : Type 0 where
    pub demand : Demand
    pub member : Contains (active p trail) demand
    pub target : demand.target ≡ v
    pub unchosen : value_in trail v ≡ None

  pub open-plain : (trail : List Choice) (v : Var) → All (IsChoice p) trail → is_open p trail v ≡ true → IsOpen trail v
  open-plain trail v choices h =
      let o = open-is (general p) trail v h in
      let plain = after-plain p trail o.request o.member in
      let d = plain.0 in
      let passes = subst (λ x. opens trail x ≡ true) (sym plain.2) o.opens_it in
      let parts = and_parts (is_yes (value_in trail) d) (is_none (value_in trail d.target)) passes in
      let target : d.target ≡ v = ap (λ (x : Request). x.target) plain.2 ∙ o.target in
      record {
        demand = d;
        member = yes-active trail d (demand-after p trail d choices plain.1) parts.0;
        target = target;
        unchosen = subst (λ w. value_in trail w ≡ None) target (none-is (value_in trail d.target) parts.1);
      }

  pub least-open : (trail : List Choice) (v : Var) → All (IsChoice p) trail → least_open p trail ≡ Some v → IsOpen trail v
  least-open trail v choices h = open-plain trail v choices (next-open (general p) trail v h)

  -- the open variables are the targets of active demands that wait for a value
  pub open-waiting : (trail : List Choice) → All (IsChoice p) trail → open_in p trail ≡ waiting trail (active p trail)
  unfolding open_vars
  open-waiting trail choices =
      let targets = map (λ (d : Demand). d.target) (filter (is_waited_for trail) (active p trail)) in
      set-alike (targets_open trail (demands_after (general p) trail)) targets
      (λ v h.
      let found = contains-map (λ (r : Request). r.target) (filter (opens trail) (demands_after (general p) trail)) v h in
      let r = found.0 in
      let kept = contains-filter (opens trail) (demands_after (general p) trail) r found.1 in
      let plain = after-plain p trail r kept.0 in
      let d = plain.0 in
      let passes = subst (λ x. opens trail x ≡ true) (sym plain.2) kept.1 in
      let parts = and_parts (is_yes (value_in trail) d) (is_none (value_in trail d.target)) passes in
      subst (λ w. Contains targets w) (ap (λ (x : Request). x.target) plain.2 ∙ found.2)
      (map-contains (λ (d : Demand). d.target) (filter (is_waited_for trail) (active p trail)) d
      (filter-contains (is_waited_for trail) (active p trail) d (yes-active trail d (demand-after p trail d choices plain.1) parts.0) parts.1)))
      (λ v h.
      let found = contains-map (λ (d : Demand). d.target) (filter (is_waited_for trail) (active p trail)) v h in
      let d = found.0 in
      let kept = contains-filter (is_waited_for trail) (active p trail) d found.1 in
      let is = active-is trail d kept.0 in
      subst (λ w. Contains (targets_open trail (demands_after (general p) trail)) w) found.2
      (map-contains (λ (r : Request). r.target) (filter (opens trail) (demands_after (general p) trail)) (request_of d)
      (filter-contains (opens trail) (demands_after (general p) trail) (request_of d) (after-general p trail d is.0)
      (and_from (is_yes (value_in trail) d) (is_none (value_in trail d.target)) is.1 kept.1))))

  -- the reason of an open variable is the condition of an active demand on it
  pub record IsReason (trail : List Choice) (v : Var) : Type 0 where
    pub demand : Demand
    pub member : Contains (active p trail) demand
    pub target : demand.target ≡ v
    pub condition : reason p trail v ≡ vars_of demand.when

  pub reason-of : (trail : List Choice) (v : Var) → IsOpen trail v → IsReason trail v
  unfolding reason
  reason-of trail v o =
      let some = find-some (asks_for v) (active p trail) o.demand o.member (subst (λ w. same_var o.demand.target w ≡ true) o.target (same_var-refl o.demand.target)) in
      let found = find-is (asks_for v) (active p trail) some.0 some.1 in
      record { demand = some.0; member = found.0; target = same_var-is some.0.target v found.1; condition = ap vars_of_first some.1 }
