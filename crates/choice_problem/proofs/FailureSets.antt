-- Shared: the set with which a search fails admits none.
use Rattle.std.proofs.Common.{◌≡◌, ℕ, zero, suc, ◌<◌, Bool, true, false, cond, not, ◌&&◌, List, [], ◌∷◌, ◌++◌, Some, None, refl, sym, ap, ◌∙◌, subst, inl, inr, ◌⊎◌}
use Rattle.std.specs.List.{Contains, All}
use Rattle.std.proofs.lemmas.Bool.{false≢true, not-true, or_left, or_right, and_parts}
use Rattle.std.proofs.lemmas.List.Elements.{All-contains, All-push}
use Rattle.qualified_goals.specs.declared.variable.Var.{Var}
use Rattle.choice_problem.specs.declared.problem.Choice.{Choice}
use Rattle.choice_problem.specs.Problem.{Problem, IsChoice, IsDemand, Lawful}
use Rattle.choice_problem.specs.Assignment.{Assignment, is_one_of}
use Rattle.choice_problem.specs.General.{Request, request_of, general}
use Rattle.choice_problem.specs.Holds.{IsEdge, IsAsked, HoldsWithin}
use Rattle.choice_problem.specs.Trail.{with_next, choice_of}
use Rattle.choice_problem.specs.Active.{open_in, reason}
use Rattle.choice_problem.specs.ConflictSet.{has, set_of, union}
use Rattle.choice_problem.specs.Conflict.{conflict}
use Rattle.choice_problem.specs.Answer.{Found, Failed, GaveUp, Past, Answer, Manner, gives_up, fails, exhausts, one_visited, one_exhausted, after_conflict, of_value, after_end, of_values, answer_from}
use Rattle.choice_problem.specs.Sound.{MakesWithin, AdmitsNoneWith, FailuresAreSound}
use Rattle.common_laws.specs.Lists.{contains-head, contains-tail, contains-none, contains-cases}
use Rattle.choice_problem.proofs.EquivalentProblems.{path-map}
use Rattle.choice_problem.proofs.VariableSets.{contains-has, has-set_of, has-union}
use Rattle.choice_problem.proofs.TrailLemmas.{demand-general, demand-plain, target-known, general-lawful}
use Rattle.choice_problem.proofs.ActiveDemands.{value_in-last, yes-from, active-yes, active-demand, IsOpen, open-plain, IsReason, reason-of}
use Rattle.choice_problem.proofs.ConflictLemmas.{yes-within, conflicts-sound}

-- an assignment within a set

abbrev pub within : (Var → Bool) → Assignment → Assignment
within set A v = cond (set v) (A v) None

pub within-some : (set : Var → Bool) (A : Assignment) (v : Var) (n : ℕ) → within set A v ≡ Some n → (set v ≡ true) × (A v ≡ Some n)
within-some set A v n h =
    elim (set v) as (λ b. cond b (A v) None ≡ Some n → (b ≡ true) × (A v ≡ Some n)) [ true ↦ λ k. (refl, k) | false ↦ λ k. absurd (cc k) ] h

pub within-at : (set : Var → Bool) (A : Assignment) (v : Var) → set v ≡ true → within set A v ≡ A v
within-at set A v h = ap (λ b. cond b (A v) None) h

makes-push : (set : List Var) (trail : List Choice) (v : Var) (n : ℕ) (A : Assignment) → MakesWithin set trail A → A v ≡ Some n → MakesWithin set (trail ++ choice_of v n ∷ []) A
makes-push set trail v n A makes made u k h e =
    elim (value_in-last trail (choice_of v n) u k e) [
      | inl l ↦ makes u k h l
      | inr r ↦ ap A (sym r.0) ∙ made ∙ ap Some r.1
    ]

module _ (p : Problem) where
  yes-wider : (set : Var → Bool) (A : Assignment) (r : Request) → IsDemand (general p) r → r.is_yes (within set A) ≡ true → r.is_yes A ≡ true
  yes-wider set A r is =
      let plain = demand-plain p r is in
      subst (λ x. x.is_yes (within set A) ≡ true → x.is_yes A ≡ true) plain.2
      (λ h. yes-from (within set A) A plain.0 (λ c k e. (within-some set A c.var c.val e).1) h)

  asked-wider : (large small : Var → Bool) (A : Assignment) → ((r : Request) → IsDemand (general p) r → small r.target ≡ true → large r.target ≡ true)
      → (r : Request) → IsAsked (general p) small (within small A) r → IsAsked (general p) large A r
  asked-wider large small A targets r asked = record {
    demand = asked.demand;
    yes = yes-wider small A r asked.demand asked.yes;
    inside = targets r asked.demand asked.inside;
  }

  -- what holds within a set, holds in another one that has no further targets
  pub restrict : (large small : Var → Bool) (A : Assignment) → ((r : Request) → IsDemand (general p) r → small r.target ≡ true → large r.target ≡ true)
      → HoldsWithin (general p) large A → HoldsWithin (general p) small (within small A)
  restrict large small A targets holds = record {
    assignment = record {
      inside = λ v n h. (within-some small A v n h).0;
      choice = λ c h. holds.assignment.choice c (within-some small A c.var c.val h).1;
    };
    unbarred = λ c h. holds.unbarred c (within-some small A c.var c.val h).1;
    met = λ r is h inside.
        subst (λ o. is_one_of o r.allowed ≡ true) (sym (within-at small A r.target inside)) (holds.met r is (yes-wider small A r is h) (targets r is inside));
    acyclic = λ v path.
        holds.acyclic v
        (path-map (IsEdge (general p) small (within small A)) (IsEdge (general p) large A)
        (λ from to e. record {
          request = e.request;
          owner = e.owner;
          demand = e.demand;
          owner_is = e.owner_is;
          yes = yes-wider small A e.request e.demand e.yes;
          inside = targets e.request e.demand e.inside;
          leaves = e.leaves;
          enters = e.enters;
        })
        path);
    agree = λ r s of-r of-s must.
        within-at small A r.target of-r.inside ∙ holds.agree r s (asked-wider large small A targets r of-r) (asked-wider large small A targets s of-s) must
        ∙ sym (within-at small A s.target of-s.inside);
  }

  -- where a set admits none, a superset admits none
  pub admits-more : (small large : List Var) (trail : List Choice) → ((v : Var) → has small v ≡ true → has large v ≡ true) → AdmitsNoneWith p small trail → AdmitsNoneWith p large trail
  admits-more small large trail sub none A holds makes =
      none (within (has small) A) (restrict (has large) (has small) A (λ r is h. sub r.target h) holds)
      (λ v n h e. within-at (has small) A v h ∙ makes v n (sub v h) e)

  -- a choice of a variable outside the set doesn't matter
  pub admits-less : (set : List Var) (trail : List Choice) (v : Var) (n : ℕ) → has set v ≡ false → AdmitsNoneWith p set (trail ++ choice_of v n ∷ []) → AdmitsNoneWith p set trail
  admits-less set trail v n out none A holds makes =
      none A holds
      (λ u k h e. elim (value_in-last trail (choice_of v n) u k e) [
        | inl l ↦ makes u k h l
        | inr r ↦ absurd (false≢true (sym out ∙ ap (has set) r.0 ∙ h))
      ])

module _ (p : Problem) (lawful : Lawful p) where
  -- a set that has an open variable and its reason admits none, where it admits none with each value
  pub point-sound : (trail : List Choice) (v : Var) (set : List Var) → All (IsChoice p) trail → IsReason p lawful trail v → has set v ≡ true
      → ((u : Var) → Contains (reason p trail v) u → has set u ≡ true) → ((n : ℕ) → n < p.domain v → AdmitsNoneWith p set (trail ++ choice_of v n ∷ [])) → AdmitsNoneWith p set trail
  point-sound trail v set choices why here inside each A holds makes =
      let d = why.demand in
      let asked = active-demand p lawful trail d choices why.member in
      let held = yes-within p lawful set trail A holds makes d (λ u k. inside u (subst (λ l. Contains l u) (sym why.condition) k)) (active-yes p lawful trail d why.member) in
      let met = holds.met (request_of d) (demand-general p d asked) held (subst (λ u. has set u ≡ true) (sym why.target) here) in
      elim (A v) as (λ o. A v ≡ o → is_one_of o d.allowed ≡ true → ⊥) [
        | None ↦ λ e k. false≢true k
        | Some n ↦ λ e k. each n (holds.assignment.choice (choice_of v n) e).value A holds (makes-push set trail v n A makes e)
      ] refl (subst (λ u. is_one_of (A u) d.allowed ≡ true) why.target met)

  pub open-known : (trail : List Choice) (v : Var) → All (IsChoice p) trail → IsOpen p lawful trail v → p.known v ≡ true
  open-known trail v choices o =
      subst (λ u. p.known u ≡ true) o.target
      (target-known (general p) (request_of o.demand) (general-lawful p lawful) (demand-general p o.demand (active-demand p lawful trail o.demand choices o.member)))

  -- a point whose values fail

  module _ (Below : List Choice → Past → Answer) (manner : Manner) (prefix : List Choice) (v : Var) (choices : All (IsChoice p) prefix) (o : IsOpen p lawful prefix v)
      (below : (n : ℕ) (past : Past) (set : List Var) → IsChoice p (choice_of v n) → (Below (prefix ++ choice_of v n ∷ []) past).ended ≡ Failed set
      → AdmitsNoneWith p set (prefix ++ choice_of v n ∷ [])) where
    abbrev Refutes : List Var → ℕ → Type 0
    Refutes set n = AdmitsNoneWith p set (prefix ++ choice_of v n ∷ [])

    is-choice : (n : ℕ) → n < p.domain v → IsChoice p (choice_of v n)
    is-choice n h = record { variable = open-known prefix v choices o; value = h }

    pub value-sound : (n : ℕ) (past : Past) (set : List Var) → n < p.domain v → (of_value Below p prefix (choice_of v n) past).ended ≡ Failed set → Refutes set n
    value-sound n past set is h =
        let c = choice_of v n in
        elim (conflict p prefix c) as (λ x. conflict p prefix c ≡ x → (after_conflict x past (Below (prefix ++ c ∷ []) past)).ended ≡ Failed set → Refutes set n) [
          | None ↦ λ e k. below n past set (is-choice n is) k
          | Some s ↦ λ e k. conflicts-sound p lawful prefix c set (All-push (IsChoice p) prefix c choices (is-choice n is)) o.unchosen (e ∙ ap Some (cc k))
        ] refl h

    exhausted-sound : (failed : List Var) (past : Past) (set : List Var) → ((n : ℕ) → n < p.domain v → Refutes failed n)
        → (exhausts manner p prefix v failed past).ended ≡ Failed set → AdmitsNoneWith p set prefix
    exhausted-sound failed past set each h =
        let why = v ∷ reason p prefix v in
        let all = union failed (set_of why) in
        let of-failed = λ (u : Var) (k : has failed u ≡ true). has-union failed (set_of why) u ∙ or_left (has failed u) (has (set_of why) u) k in
        let of-why = λ (u : Var) (k : Contains why u). has-union failed (set_of why) u ∙ or_right (has failed u) (has (set_of why) u) (has-set_of why u ∙ contains-has why u k) in
        let gave : Answer = record { ended = GaveUp; past = past } in
        elim (gives_up manner.limit prefix past.counts.exhausted) as (λ b. (cond {A = Answer} b gave (fails all (one_exhausted past))).ended ≡ Failed set → AdmitsNoneWith p set prefix) [
          | true ↦ λ k. absurd (cc k)
          | false ↦ λ k.
              let same : all ≡ set = cc k in
              subst (λ s. AdmitsNoneWith p s prefix) same
              (point-sound prefix v all choices (reason-of p lawful prefix v o) (of-why v (contains-head v (reason p prefix v)))
              (λ u i. of-why u (contains-tail v (reason p prefix v) u i))
              (λ n is. admits-more p failed all (prefix ++ choice_of v n ∷ []) of-failed (each n is)))
        ] h

    -- each value is still to be tried, or has failed
    pub values-sound : (values : List ℕ) (failed : List Var) (past : Past) (set : List Var) → ((n : ℕ) → Contains values n → n < p.domain v)
        → ((n : ℕ) → n < p.domain v → Contains values n ⊎ Refutes failed n) → (of_values Below manner p prefix v values failed past).ended ≡ Failed set → AdmitsNoneWith p set prefix
    values-sound [] failed past set are done h =
        exhausted-sound failed past set (λ n is. elim (done n is) [ inl none ↦ absurd (contains-none n none) | inr r ↦ r ]) h
    values-sound (n ∷ values) failed past set are done h =
        let answer = of_value Below p prefix (choice_of v n) (one_visited past) in
        let rest = λ (s : List Var) (now : Past). of_values Below manner p prefix v values (union failed s) now in
        elim answer.ended as (λ e. answer.ended ≡ e → (after_end manner v e answer.past rest).ended ≡ Failed set → AdmitsNoneWith p set prefix) [
          | Found t ↦ λ e k. absurd (cc k)
          | GaveUp ↦ λ e k. absurd (cc k)
          | Failed s ↦ λ e k.
              let refuted = value-sound n (one_visited past) s (are n (contains-head n values)) e in
              elim (manner.jumps && not (has s v)) as (λ b. manner.jumps && not (has s v) ≡ b → (cond {A = Answer} b (record { ended = Failed s; past = answer.past }) (rest s answer.past)).ended ≡ Failed set
              → AdmitsNoneWith p set prefix) [
                | true ↦ λ jump l.
                    let same : s ≡ set = cc l in
                    subst (λ x. AdmitsNoneWith p x prefix) same (admits-less p s prefix v n (not-true (has s v) ((and_parts manner.jumps (not (has s v)) jump).1)) refuted)
                | false ↦ λ stay l.
                    values-sound values (union failed s) answer.past set (λ m i. are m (contains-tail n values m i))
                    (λ m is. elim (done m is) [
                      | inl i ↦ elim (contains-cases n values m i) [
                        | inl same ↦ inr (subst (Refutes (union failed s)) same
                            (admits-more p s (union failed s) (prefix ++ choice_of v n ∷ []) (λ u q. has-union failed s u ∙ or_right (has failed u) (has s u) q) refuted))
                        | inr later ↦ inl later
                      ]
                      | inr r ↦ inr (admits-more p failed (union failed s) (prefix ++ choice_of v m ∷ []) (λ u q. has-union failed s u ∙ or_left (has failed u) (has s u) q) r)
                    ])
                    l
              ] refl k
        ] refl h

  pub failures-sound : FailuresAreSound p
  failures-sound zero manner prefix past set guide choices h = absurd (cc h)
  failures-sound (suc fuel) manner prefix past set guide choices h =
      elim (manner.guide past.met (open_in p prefix)) as (λ x. manner.guide past.met (open_in p prefix) ≡ x
      → (with_next x (record { ended = Found prefix; past = past }) (λ v. of_values (answer_from fuel manner p) manner p prefix v (p.order v prefix) [] past)).ended ≡ Failed set
      → AdmitsNoneWith p set prefix) [
        | None ↦ λ e k. absurd (cc k)
        | Some v ↦ λ e k.
            let o = open-plain p lawful prefix v choices (guide.picked past.met (open_in p prefix) v e) in
            let order = lawful.order v (open-known prefix v choices o) prefix choices in
            values-sound (answer_from fuel manner p) manner prefix v choices o
            (λ n now s is failed. failures-sound fuel manner (prefix ++ choice_of v n ∷ []) now s guide (All-push (IsChoice p) prefix (choice_of v n) choices is) failed)
            (p.order v prefix) [] past set
            (λ n i. All-contains (λ x. x < p.domain v) (p.order v prefix) n order.below i)
            (λ n is. inl (order.each n is)) k
      ] refl h
