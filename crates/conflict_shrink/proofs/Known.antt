-- The set with which a search fails has known variables alone, and admits none.
use Rattle.std.proofs.Common.{◌≡◌, ◌<◌, ℕ, zero, suc, true, false, cond, not, ◌&&◌, ◌||◌, List, [], ◌∷◌, ◌++◌, Option, Some, None, refl, sym, ap, ◌∙◌, subst, inl, inr}
use Rattle.std.specs.Prelude.{find}
use Rattle.std.specs.List.{Contains, All, flat_map}
use Rattle.std.proofs.lemmas.List.Elements.{All-contains, All-push, All-nil}
use Rattle.plan_types.specs.declared.limit.Limit.{Limit}
use Rattle.qualified_goals.specs.declared.variable.Var.{Var}
use Rattle.choice_problem.specs.declared.problem.Choice.{Choice}
use Rattle.choice_problem.specs.declared.problem.Demand.{Demand}
use Rattle.choice_problem.specs.declared.outcome.Counts.{Counts}
use Rattle.choice_problem.specs.declared.outcome.Outcome.TheVariants as outcome
use Rattle.choice_problem.specs.Problem.{Problem, IsChoice, IsDemand, Lawful}
use Rattle.choice_problem.specs.Assignment.{is_made, is_yes}
use Rattle.choice_problem.specs.General.{request_of, general}
use Rattle.choice_problem.specs.Trail.{value_in, with_next, choice_of}
use Rattle.choice_problem.specs.Active.{made_active, active, open_in, reason, vars_of}
use Rattle.choice_problem.specs.ConflictSet.{has, set_of, union}
use Rattle.choice_problem.specs.Conflict.{named_by, set_of_first, barred_set, refuses, refused_set, is_broken, broken_set, edges_of, lies_on_cycle, circular, set_of_all, cycle_set, first_clash, set_of_pair, agreement_set, value_sets, lasting_sets, conflict}
use Rattle.choice_problem.specs.Guide.{IsGuide}
use Rattle.choice_problem.specs.Answer.{Found, Failed, GaveUp, Past, Answer, Manner, gives_up, fails, exhausts, one_visited, one_exhausted, after_conflict, of_value, after_end, of_values, answer_from, nothing_yet, guided_answer, outcome_by, outcome_of}
use Rattle.choice_problem.proofs.VariableSets.{has-contains, contains-has, has-set_of, has-union}
use Rattle.choice_problem.proofs.FirstSets.{first-member}
use Rattle.choice_problem.proofs.TrailLemmas.{value_in-made, is_made-is, target-known, demand-general, general-lawful}
use Rattle.choice_problem.proofs.ActiveDemands.{find-is, active-yes, active-demand, made-is, made-demand, IsOpen, open-plain, reason-of}
use Rattle.choice_problem.proofs.DemandPairs.{clash-is}
use Rattle.choice_problem.proofs.ConflictLemmas.{all-front}
use Rattle.choice_problem.proofs.FailureSets.{open-known, failures-sound}
use Rattle.common_laws.specs.Lists.{contains-head, contains-tail, contains-none, contains-cases, contains-right, contains-append, contains-flat_map, contains-map, contains-filter, all-at, all-from}
use Rattle.conflict_shrink.specs.Restricted.{CanBeShrunk}

circular-among : (ds : List Demand) (d : Demand) → Contains (circular ds) d → Contains ds d
unfolding circular
circular-among ds d h = (contains-filter (lies_on_cycle (edges_of ds)) ds d h).0

module _ (p : Problem) where
  -- each variable of a set is known
  abbrev Knows : List Var → Type 0
  Knows set = (v : Var) → has set v ≡ true → p.known v ≡ true

  -- each variable that a demand names is known
  abbrev Names : Demand → Type 0
  Names d = (v : Var) → Contains (named_by d) v → p.known v ≡ true

  -- each variable of a rule's set is known
  abbrev KnowsSome : Option (List Var) → Type 0
  KnowsSome o = (set : List Var) → o ≡ Some set → Knows set

  knows-set_of : (vars : List Var) → ((v : Var) → Contains vars v → p.known v ≡ true) → Knows (set_of vars)
  knows-set_of vars each v h = each v (has-contains vars v (sym (has-set_of vars v) ∙ h))

  knows-union : (xs ys : List Var) → Knows xs → Knows ys → Knows (union xs ys)
  knows-union xs ys left right v h =
      elim (has xs v) as (λ b. has xs v ≡ b → b || has ys v ≡ true → p.known v ≡ true) [
        | true ↦ λ is k. left v is
        | false ↦ λ is k. right v k
      ] refl (sym (has-union xs ys v) ∙ h)

  knows-first : (o : Option Demand) → ((d : Demand) → o ≡ Some d → Names d) → KnowsSome (set_of_first o)
  knows-first None each set h = absurd (cc h)
  knows-first (Some d) each set h = subst Knows (cc h) (knows-set_of (named_by d) (each d refl))

  knows-all : (ds : List Demand) → ((d : Demand) → Contains ds d → Names d) → KnowsSome (set_of_all ds)
  knows-all [] each set h = absurd (cc h)
  knows-all (d ∷ ds) each set h =
      subst Knows (cc h)
      (knows-set_of (flat_map named_by (d ∷ ds)) (λ v k. let found = contains-flat_map named_by (d ∷ ds) v k in each found.0 found.1 v found.2))

  knows-pair : (o : Option (Demand × Demand)) → ((d e : Demand) → o ≡ Some (d, e) → Names d × Names e) → KnowsSome (set_of_pair o)
  knows-pair None each set h = absurd (cc h)
  knows-pair (Some (d, e)) each set h =
      let both = each d e refl in
      subst Knows (cc h)
      (knows-set_of (named_by d ++ named_by e) (λ v k. elim (contains-append (named_by d) (named_by e) v k) [ inl l ↦ both.0 v l | inr r ↦ both.1 v r ]))

module _ (p : Problem) (lawful : Lawful p) where
  -- demands that are Yes under some choices

  module _ (trail : List Choice) (choices : All (IsChoice p) trail) where
    condition-known : (d : Demand) → is_yes (value_in trail) d ≡ true → (v : Var) → Contains (vars_of d.when) v → p.known v ≡ true
    condition-known d made v k =
        let found = contains-map (λ (c : Choice). c.var) d.when v k in
        let c = found.0 in
        let chosen = value_in-made trail c.var c.val (is_made-is (value_in trail) c (all-at (is_made (value_in trail)) d.when c made found.1)) in
        subst (λ u. p.known u ≡ true) found.2 (All-contains (IsChoice p) trail (choice_of c.var c.val) choices chosen).variable

    named-known : (d : Demand) → IsDemand p d → is_yes (value_in trail) d ≡ true → Names p d
    named-known d is made v k =
        elim (contains-cases d.target (vars_of d.when) v k) [
          | inl same ↦ subst (λ u. p.known u ≡ true) same (target-known (general p) (request_of d) (general-lawful p lawful) (demand-general p d is))
          | inr r ↦ condition-known d made v r
        ]

    active-known : (d : Demand) → Contains (active p trail) d → Names p d
    active-known d on = named-known d (active-demand p lawful trail d choices on) (active-yes p lawful trail d on)

  -- the rules, one by one

  module _ (trail : List Choice) (c : Choice) (choices : All (IsChoice p) (trail ++ c ∷ [])) where
    barred-known : KnowsSome p (barred_set p c)
    barred-known set h =
        let last = (All-contains (IsChoice p) (trail ++ c ∷ []) c choices (contains-right trail (c ∷ []) c (contains-head c []))).variable in
        let one = knows-set_of p (c.var ∷ []) (λ v k. elim (contains-cases c.var [] v k) [
          | inl same ↦ subst (λ u. p.known u ≡ true) same last
          | inr none ↦ absurd (contains-none v none)
        ]) in
        elim (p.barred c) as (λ b. cond b (Some (set_of (c.var ∷ []))) None ≡ Some set → Knows p set) [
          | true ↦ λ k. let same : set_of (c.var ∷ []) ≡ set = cc k in subst (Knows p) same one
          | false ↦ λ k. absurd (cc k)
        ] h

    refused-known : KnowsSome p (refused_set p trail c)
    refused-known =
        knows-first p (find (refuses c) (active p trail))
        (λ d is. active-known trail (all-front (IsChoice p) trail (c ∷ []) choices) d (find-is (refuses c) (active p trail) d is).0)

    broken-known : KnowsSome p (broken_set p trail c)
    broken-known =
        let after = trail ++ c ∷ [] in
        knows-first p (find (is_broken after) (made_active p trail c))
        (λ d is. let on = (find-is (is_broken after) (made_active p trail c) d is).0 in
        named-known after choices d (made-demand p lawful trail c d choices on) (made-is p trail c d on).1)

    cycle-known : KnowsSome p (cycle_set (active p (trail ++ c ∷ [])))
    cycle-known =
        let ds = active p (trail ++ c ∷ []) in
        knows-all p (circular ds) (λ d k. active-known (trail ++ c ∷ []) choices d (circular-among ds d k))

    agreement-known : KnowsSome p (agreement_set (trail ++ c ∷ []) (active p (trail ++ c ∷ [])))
    agreement-known =
        let after = trail ++ c ∷ [] in
        knows-pair p (first_clash after (active p after))
        (λ d e is. let clash = clash-is after (active p after) d e is in (active-known after choices d clash.earlier, active-known after choices e clash.later))

    value-sets-known : (o : Option (List Var)) → Contains (value_sets p trail c) o → KnowsSome p o
    value-sets-known o k =
        elim (contains-cases (barred_set p c) (refused_set p trail c ∷ broken_set p trail c ∷ []) o k) [
          | inl e ↦ subst (KnowsSome p) e barred-known
          | inr r ↦ elim (contains-cases (refused_set p trail c) (broken_set p trail c ∷ []) o r) [
            | inl e ↦ subst (KnowsSome p) e refused-known
            | inr s ↦ elim (contains-cases (broken_set p trail c) [] o s) [
              | inl e ↦ subst (KnowsSome p) e broken-known
              | inr none ↦ absurd (contains-none o none)
            ]
          ]
        ]

    lasting-sets-known : (o : Option (List Var)) → Contains (lasting_sets (trail ++ c ∷ []) (active p (trail ++ c ∷ []))) o → KnowsSome p o
    lasting-sets-known o k =
        let after = trail ++ c ∷ [] in
        elim (contains-cases (cycle_set (active p after)) (agreement_set after (active p after) ∷ []) o k) [
          | inl e ↦ subst (KnowsSome p) e cycle-known
          | inr r ↦ elim (contains-cases (agreement_set after (active p after)) [] o r) [
            | inl e ↦ subst (KnowsSome p) e agreement-known
            | inr none ↦ absurd (contains-none o none)
          ]
        ]

    conflict-known : (set : List Var) → conflict p trail c ≡ Some set → Knows p set
    unfolding conflict
    conflict-known set h =
        let of_one = value_sets p trail c in
        let lasting = lasting_sets (trail ++ c ∷ []) (active p (trail ++ c ∷ [])) in
        elim (contains-append of_one lasting (Some set) (first-member (of_one ++ lasting) set h)) [
          | inl l ↦ value-sets-known (Some set) l set refl
          | inr r ↦ lasting-sets-known (Some set) r set refl
        ]

  -- a point whose values fail

  module _ (Below : List Choice → Past → Answer) (manner : Manner) (prefix : List Choice) (v : Var) (choices : All (IsChoice p) prefix) (o : IsOpen p lawful prefix v)
      (below : (n : ℕ) (past : Past) (set : List Var) → IsChoice p (choice_of v n) → (Below (prefix ++ choice_of v n ∷ []) past).ended ≡ Failed set → Knows p set) where
    value-known : (n : ℕ) (past : Past) (set : List Var) → n < p.domain v → (of_value Below p prefix (choice_of v n) past).ended ≡ Failed set → Knows p set
    value-known n past set value h =
        let c = choice_of v n in
        let is : IsChoice p c = record { variable = open-known p lawful prefix v choices o; value = value } in
        elim (conflict p prefix c) as (λ x. conflict p prefix c ≡ x → (after_conflict x past (Below (prefix ++ c ∷ []) past)).ended ≡ Failed set → Knows p set) [
          | None ↦ λ e k. below n past set is k
          | Some s ↦ λ e k. conflict-known prefix c (All-push (IsChoice p) prefix c choices is) set (e ∙ ap Some (cc k))
        ] refl h

    why-known : (u : Var) → Contains (v ∷ reason p prefix v) u → p.known u ≡ true
    why-known u k =
        let why = reason-of p lawful prefix v o in
        elim (contains-cases v (reason p prefix v) u k) [
          | inl same ↦ subst (λ w. p.known w ≡ true) same (open-known p lawful prefix v choices o)
          | inr r ↦ condition-known prefix choices why.demand (active-yes p lawful prefix why.demand why.member) u (subst (λ l. Contains l u) why.condition r)
        ]

    exhausted-known : (failed : List Var) (past : Past) (set : List Var) → Knows p failed → (exhausts manner p prefix v failed past).ended ≡ Failed set → Knows p set
    exhausted-known failed past set known h =
        let why = v ∷ reason p prefix v in
        let all = union failed (set_of why) in
        let gave : Answer = record { ended = GaveUp; past = past } in
        elim (gives_up manner.limit prefix past.counts.exhausted) as (λ b. (cond {A = Answer} b gave (fails all (one_exhausted past))).ended ≡ Failed set → Knows p set) [
          | true ↦ λ k. absurd (cc k)
          | false ↦ λ k. let same : all ≡ set = cc k in subst (Knows p) same (knows-union p failed (set_of why) known (knows-set_of p why why-known))
        ] h

    values-known : (values : List ℕ) (failed : List Var) (past : Past) (set : List Var) → ((n : ℕ) → Contains values n → n < p.domain v) → Knows p failed
        → (of_values Below manner p prefix v values failed past).ended ≡ Failed set → Knows p set
    values-known [] failed past set are known h = exhausted-known failed past set known h
    values-known (n ∷ values) failed past set are known h =
        let answer = of_value Below p prefix (choice_of v n) (one_visited past) in
        let rest = λ (s : List Var) (now : Past). of_values Below manner p prefix v values (union failed s) now in
        elim answer.ended as (λ e. answer.ended ≡ e → (after_end manner v e answer.past rest).ended ≡ Failed set → Knows p set) [
          | Found t ↦ λ e k. absurd (cc k)
          | GaveUp ↦ λ e k. absurd (cc k)
          | Failed s ↦ λ e k.
              let one = value-known n (one_visited past) s (are n (contains-head n values)) e in
              elim (manner.jumps && not (has s v)) as (λ b. (cond {A = Answer} b (record { ended = Failed s; past = answer.past }) (rest s answer.past)).ended ≡ Failed set → Knows p set) [
                | true ↦ λ l. let same : s ≡ set = cc l in subst (Knows p) same one
                | false ↦ λ l. values-known values (union failed s) answer.past set (λ m i. are m (contains-tail n values m i)) (knows-union p failed s known one) l
              ] k
        ] refl h

  failed-known : (fuel : ℕ) (manner : Manner) (prefix : List Choice) (past : Past) (set : List Var) → IsGuide manner.guide → All (IsChoice p) prefix
      → (answer_from fuel manner p prefix past).ended ≡ Failed set → Knows p set
  failed-known zero manner prefix past set guide choices h = absurd (cc h)
  failed-known (suc fuel) manner prefix past set guide choices h =
      elim (manner.guide past.met (open_in p prefix)) as (λ x. manner.guide past.met (open_in p prefix) ≡ x
      → (with_next x (record { ended = Found prefix; past = past }) (λ v. of_values (answer_from fuel manner p) manner p prefix v (p.order v prefix) [] past)).ended ≡ Failed set
      → Knows p set) [
        | None ↦ λ e k. absurd (cc k)
        | Some v ↦ λ e k.
            let o = open-plain p lawful prefix v choices (guide.picked past.met (open_in p prefix) v e) in
            let order = lawful.order v (open-known p lawful prefix v choices o) prefix choices in
            values-known (answer_from fuel manner p) manner prefix v choices o
            (λ n now s is failed. failed-known fuel manner (prefix ++ choice_of v n ∷ []) now s guide (All-push (IsChoice p) prefix (choice_of v n) choices is) failed)
            (p.order v prefix) [] past set
            (λ n i. All-contains (λ x. x < p.domain v) (p.order v prefix) n order.below i)
            (λ u i. absurd (cc i)) k
      ] refl h

  failed-with : (answer : Answer) (set : List Var) (counts : Counts) → outcome_of answer ≡ outcome.NoPlan set counts → answer.ended ≡ Failed set
  failed-with answer set counts h =
      elim answer.ended as (λ e. (k : Counts) → outcome_by e k ≡ outcome.NoPlan set counts → e ≡ Failed set) [
        | Found trail ↦ λ k i. absurd (cc i)
        | Failed s ↦ λ k i. let same : s ≡ set = cc i in ap Failed same
        | GaveUp ↦ λ k i. absurd (cc i)
      ] _ h

  -- with any guide and any limit
  module _ (guide : _) (is : IsGuide guide) (limit : Limit) (set : List Var) where
    abbrev manner : Manner
    manner = record { guide = guide; limit = limit; jumps = true }

    pub failed-can : (guided_answer guide p limit).ended ≡ Failed set → CanBeShrunk p set
    unfolding guided_answer
    failed-can h = record {
      known = all-from p.known set (λ v k. failed-known p.bound manner [] nothing_yet set is (All-nil (IsChoice p)) h v (contains-has set v k));
      none = λ A holds. failures-sound p lawful p.bound manner [] nothing_yet set is (All-nil (IsChoice p)) h A holds (λ v n k e. absurd (cc e));
    }

    pub no-plan-can : (counts : Counts) → outcome_of (guided_answer guide p limit) ≡ outcome.NoPlan set counts → CanBeShrunk p set
    no-plan-can counts h = failed-can (failed-with (guided_answer guide p limit) set counts h)
