-- Shared: without a limit a search ends with the first complete, valid assignment, or none exists.
use Rattle.std.proofs.Common.{◌≡◌, ◌≢◌, ℕ, zero, suc, ◌<◌, Bool, true, false, cond, not, ◌&&◌, List, [], ◌∷◌, ◌++◌, length, Some, None, refl, sym, ap, ◌∙◌, subst, inl, inr, ◌⊎◌, append_assoc}
use Rattle.std.specs.Prelude.{is_none}
use Rattle.std.specs.List.{Contains, All, AllPairs, list_any}
use Rattle.std.proofs.lemmas.Bool.{false≢true, and_right}
use Rattle.std.proofs.lemmas.List.{append-nil}
use Rattle.std.proofs.lemmas.List.Elements.{All-contains, All-push, All-nil}
use Rattle.plan_types.specs.declared.limit.Limit.TheVariants.{Unlimited}
use Rattle.qualified_goals.specs.declared.variable.Var.{Var}
use Rattle.choice_problem.specs.declared.problem.Choice.{Choice}
use Rattle.choice_problem.specs.declared.problem.Demand.{Demand}
use Rattle.choice_problem.specs.Problem.{Problem, IsChoice, IsDemand, IsRoot, Lawful}
use Rattle.choice_problem.specs.Assignment.{Assignment, is_one_of, is_yes}
use Rattle.choice_problem.specs.General.{Request, request_of, general}
use Rattle.choice_problem.specs.Twins.{must_agree}
use Rattle.common_laws.specs.Graphs.{IsPath, last, more}
use Rattle.choice_problem.specs.Holds.{IsEdge, IsAsked, HoldsWithin}
use Rattle.choice_problem.specs.Trail.{value_in, next_var, with_next, choice_of, trail_from, trail_of, AreNew, before_any, one_more}
use Rattle.choice_problem.specs.Valid.{IsWholeValid, IsFirst}
use Rattle.choice_problem.specs.Active.{active, open_in, is_open, least_open, reason}
use Rattle.choice_problem.specs.Guide.{Guide, IsGuide, least}
use Rattle.choice_problem.specs.ConflictSet.{has, first_of, set_of, union}
use Rattle.choice_problem.specs.Conflict.{Edge, edges_from, edges_by, edges_of, leads, lies_on_cycle, disagree, lasting_set, conflict}
use Rattle.choice_problem.specs.Answer.{Found, Failed, GaveUp, Past, Answer, Manner, gives_up, fails, one_visited, one_exhausted, after_conflict, of_value, after_end, of_values, answer_from, nothing_yet, guided_answer, answer_of}
use Rattle.choice_problem.specs.Sound.{AdmitsNoneWith, IsRightEnd, IsValidEnd, AreNone, AreOpened, none_opened, one_opened}
use Rattle.common_laws.specs.Lists.{contains-head, contains-tail, contains-none, contains-cases, contains-append, contains-right, flat_map-contains, cancel-front, earlier-in-front, any-from}
use Rattle.choice_problem.proofs.TrailLemmas.{value_in-made, value_in-kept, value_in-new, Passes, passes-value, passes-push, passes-front, next-none, next-open, next-unchosen, open-unchosen, target-known, yes-after, Room, room-start, room-zero, room-next, trail-step, trail-end, passes-trail, passes-choices, choices-general, choice-general, choices-plain, demand-plain, general-lawful}
use Rattle.choice_problem.proofs.EdgePaths.{Way, start, step, way-leads}
use Rattle.choice_problem.proofs.ActiveDemands.{value_in-last, yes-active, yes-made, IsOpen, open-plain}
use Rattle.choice_problem.specs.Guides.{least-is-guide}
use Rattle.choice_problem.proofs.VariableSets.{contains-has}
use Rattle.choice_problem.proofs.AnyOrder.{named-alike}
use Rattle.choice_problem.proofs.DemandPairs.{no-clash, one-value}
use Rattle.choice_problem.proofs.ConflictLemmas.{and-false, of-edge, acyclic-none, lasting-acyclic, lasting-agree, lasting-none, IsFree, free}
use Rattle.choice_problem.proofs.FailureSets.{within, within-at, restrict, open-known, value-sound, failures-sound}
use Rattle.choice_problem.proofs.SearchLimits.{no-limit}

-- a search without a limit
abbrev pub unlimited : Guide → Bool → Manner
unlimited guide jumps = record { guide = guide; limit = Unlimited; jumps = jumps }

-- the variables that the guide picks satisfy Picks
abbrev pub PicksBy : (p : Problem) → Guide → (List Choice → Var → Type 0) → Type 0
PicksBy p guide Picks = (met : List (List Var)) (prefix : List Choice) (v : Var) → guide met (open_in p prefix) ≡ Some v → Picks prefix v

-- a variable is open
abbrev pub Open : Problem → List Choice → Var → Type 0
Open p trail v = is_open p trail v ≡ true

-- it is the least open one
abbrev pub Least : Problem → List Choice → Var → Type 0
Least p trail v = least_open p trail ≡ Some v

module _ (p : Problem) (Picks : List Choice → Var → Type 0) where
  -- steps from one trail to another: choices without conflict, of variables that satisfy Picks
  pub data Reaches (to : List Choice) : List Choice → Type 0 where
    here : {trail : List Choice} → trail ≡ to → Reaches to trail
    goes : {trail : List Choice} → (v : Var) (n : ℕ) → Picks trail v → IsChoice p (choice_of v n) → conflict p trail (choice_of v n) ≡ None
        → Reaches to (trail ++ choice_of v n ∷ []) → Reaches to trail

  pub reach-join : (mid to from : List Choice) → Reaches mid from → Reaches to mid → Reaches to from
  reach-join mid to from (here e) b = subst (λ t. Reaches to t) (sym e) b
  reach-join mid to from (goes v n next is free a) b = goes v n next is free (reach-join mid to (from ++ choice_of v n ∷ []) a b)

  -- one more choice
  pub reach-push : (to from : List Choice) (v : Var) (n : ℕ) → Reaches to from → Picks to v → IsChoice p (choice_of v n) → conflict p to (choice_of v n) ≡ None
      → Reaches (to ++ choice_of v n ∷ []) from
  reach-push to from v n a next is free = reach-join to (to ++ choice_of v n ∷ []) from a (goes v n next is free (here refl))

  pub reach-choices : (to from : List Choice) → Reaches to from → All (IsChoice p) from → All (IsChoice p) to
  reach-choices to from (here e) h = subst (λ t. All (IsChoice p) t) e h
  reach-choices to from (goes v n next is free a) h = reach-choices to (from ++ choice_of v n ∷ []) a (All-push (IsChoice p) from (choice_of v n) h is)

  pub reach-front : (to from : List Choice) → Reaches to from → (rest : List Choice) × (to ≡ from ++ rest)
  reach-front to from (here e) = ([], sym e ∙ sym (append-nil from))
  reach-front to from (goes v n next is free a) =
      let rest = reach-front to (from ++ choice_of v n ∷ []) a in
      (choice_of v n ∷ rest.0, rest.1 ∙ append_assoc from (choice_of v n ∷ []) rest.0)

  -- a trail that was reached from the start by open variables

  module _ (opens : (trail : List Choice) (v : Var) → Picks trail v → Open p trail v) where
    pub reach-opened : (to from : List Choice) → Reaches to from → AreOpened p from → AreOpened p to
    reach-opened to from (here e) h = subst (AreOpened p) e h
    reach-opened to from (goes v n next is free a) h = reach-opened to (from ++ choice_of v n ∷ []) a (one_opened h (choice_of v n) (opens from v next) refl)

    pub reach-new : (to from : List Choice) → Reaches to from → AreNew from → AreNew to
    reach-new to from (here e) h = subst AreNew e h
    reach-new to from (goes v n next is free a) h =
        reach-new to (from ++ choice_of v n ∷ []) a (one_more h (choice_of v n) (open-unchosen (general p) from v (opens from v next)) refl)

    -- a value of the front stays to the end
    pub reach-passes : (found trail : List Choice) → Reaches found trail → Passes (value_in found) trail → Passes (value_in found) found
    reach-passes found trail (here e) passes = subst (λ t. Passes (value_in found) t) e passes
    reach-passes found trail (goes v n next is none a) passes =
        let rest = reach-front found (trail ++ choice_of v n ∷ []) a in
        let made : value_in found v ≡ Some n =
        subst (λ t. value_in t v ≡ Some n) (sym rest.1)
        (value_in-kept (trail ++ choice_of v n ∷ []) rest.0 v n (value_in-new trail [] v n (open-unchosen (general p) trail v (opens trail v next)))) in
        reach-passes found (trail ++ choice_of v n ∷ []) a (passes-push (value_in found) trail (choice_of v n) passes made)

module _ (p : Problem) where
  -- a search without a limit never gives up

  never-at : (Below : List Choice → Past → Answer) (guide : Guide) (jumps : Bool) (prefix : List Choice) (v : Var)
      → ((n : ℕ) (past : Past) → (Below (prefix ++ choice_of v n ∷ []) past).ended ≡ GaveUp → ⊥)
      → (values : List ℕ) (failed : List Var) (past : Past) → (of_values Below (unlimited guide jumps) p prefix v values failed past).ended ≡ GaveUp → ⊥
  never-at Below guide jumps prefix v below [] failed past h =
      let gave : Answer = record { ended = GaveUp; past = past } in
      cc (sym (ap (λ b. (cond {A = Answer} b gave (fails (union failed (set_of (v ∷ reason p prefix v))) (one_exhausted past))).ended) (no-limit prefix past.counts.exhausted)) ∙ h)
  never-at Below guide jumps prefix v below (n ∷ values) failed past h =
      let c = choice_of v n in
      let tried = one_visited past in
      let answer = of_value Below p prefix c tried in
      let rest = λ (s : List Var) (now : Past). of_values Below (unlimited guide jumps) p prefix v values (union failed s) now in
      elim answer.ended as (λ e. answer.ended ≡ e → (after_end (unlimited guide jumps) v e answer.past rest).ended ≡ GaveUp → ⊥) [
        | Found t ↦ λ e k. cc k
        | GaveUp ↦ λ e k.
            elim (conflict p prefix c) as (λ o. (after_conflict o tried (Below (prefix ++ c ∷ []) tried)).ended ≡ GaveUp → ⊥) [
              | None ↦ λ l. below n tried l
              | Some s ↦ λ l. cc l
            ] e
        | Failed s ↦ λ e k.
            elim (jumps && not (has s v)) as (λ b. (cond {A = Answer} b (record { ended = Failed s; past = answer.past }) (rest s answer.past)).ended ≡ GaveUp → ⊥) [
              | true ↦ λ l. cc l
              | false ↦ λ l. never-at Below guide jumps prefix v below values (union failed s) answer.past l
            ] k
      ] refl h

  pub never-gives-up : (guide : Guide) (fuel : ℕ) (jumps : Bool) (prefix : List Choice) (past : Past) → (answer_from fuel (unlimited guide jumps) p prefix past).ended ≡ GaveUp → ⊥
  never-gives-up guide zero jumps prefix past h = cc h
  never-gives-up guide (suc fuel) jumps prefix past h =
      elim (guide past.met (open_in p prefix)) as (λ x.
      (with_next x (record { ended = Found prefix; past = past }) (λ v. of_values (answer_from fuel (unlimited guide jumps) p) (unlimited guide jumps) p prefix v (p.order v prefix) [] past)).ended ≡ GaveUp
      → ⊥) [
        | None ↦ λ k. cc k
        | Some v ↦ λ k.
            never-at (answer_from fuel (unlimited guide jumps) p) guide jumps prefix v (λ n now l. never-gives-up guide fuel jumps (prefix ++ choice_of v n ∷ []) now l) (p.order v prefix) [] past k
      ] h

  -- some set admits none with the trail
  abbrev pub IsRefuted : List Choice → Type 0
  IsRefuted trail = (set : List Var) × AdmitsNoneWith p set trail

  -- the trail found goes on with this value, and the values before it were refuted
  record IsFoundAt (Below : List Choice → Past → Answer) (prefix : List Choice) (v : Var) (values : List ℕ) (found : List Choice) : Type 0 where
    front : List ℕ
    value : ℕ
    rest : List ℕ
    all : values ≡ front ++ value ∷ rest
    before : (m : ℕ) → Contains front m → IsRefuted (prefix ++ choice_of v m ∷ [])
    free : conflict p prefix (choice_of v value) ≡ None
    past : Past
    goes_on : (Below (prefix ++ choice_of v value ∷ []) past).ended ≡ Found found

  -- nothing that was chosen is barred, no demand that is Yes is broken, and the lasting rules give no set
  record IsKept (trail : List Choice) : Type 0 where
    unbarred : (c : Choice) → Contains trail c → p.barred c ≡ false
    met : (d : Demand) (n : ℕ) → IsDemand p d → is_yes (value_in trail) d ≡ true → value_in trail d.target ≡ Some n → is_one_of (Some n) d.allowed ≡ true
    lasting : lasting_set trail (active p trail) ≡ None

module _ (p : Problem) (lawful : Lawful p) where
  -- where a set admits none with a trail, no assignment that holds makes all its choices
  refuted-none : (trail : List Choice) → IsRefuted p trail → (A : Assignment) → HoldsWithin (general p) p.known A → Passes A trail → ⊥
  refuted-none trail refuted A holds passes =
      let set = refuted.0 in
      refuted.1 (within (has set) A) (restrict p p.known (has set) A (λ r is h. target-known (general p) r (general-lawful p lawful) is) holds)
      (λ v n h e. within-at (has set) A v h ∙ passes-value A trail v n passes e)

  -- where a search fails after some choices, no assignment that holds makes them all
  pub failed-none : (fuel : ℕ) (manner : Manner) (prefix : List Choice) (past : Past) (set : List Var) → IsGuide manner.guide → All (IsChoice p) prefix
      → (answer_from fuel manner p prefix past).ended ≡ Failed set → (A : Assignment) → HoldsWithin (general p) p.known A → Passes A prefix → ⊥
  failed-none fuel manner prefix past set guide choices h = refuted-none prefix (set, failures-sound p lawful fuel manner prefix past set guide choices h)

  -- what a point found

  module _ (manner : Manner) (guide : IsGuide manner.guide) where
    found-at : (fuel : ℕ) (prefix : List Choice) (v : Var) (choices : All (IsChoice p) prefix) (o : IsOpen p lawful prefix v) (found : List Choice)
        (values : List ℕ) (failed : List Var) (past : Past) → ((n : ℕ) → Contains values n → n < p.domain v)
        → (of_values (answer_from fuel manner p) manner p prefix v values failed past).ended ≡ Found found → IsFoundAt p (answer_from fuel manner p) prefix v values found
    found-at fuel prefix v choices o found [] failed past are h =
        let gave : Answer = record { ended = GaveUp; past = past } in
        let blames : Answer = fails (union failed (set_of (v ∷ reason p prefix v))) (one_exhausted past) in
        elim (gives_up manner.limit prefix past.counts.exhausted) as (λ b. (cond {A = Answer} b gave blames).ended ≡ Found found → IsFoundAt p (answer_from fuel manner p) prefix v [] found) [
          | true ↦ λ k. absurd (cc k)
          | false ↦ λ k. absurd (cc k)
        ] h
    found-at fuel prefix v choices o found (n ∷ values) failed past are h =
        let c = choice_of v n in
        let tried = one_visited past in
        let Below = answer_from fuel manner p in
        let answer = of_value Below p prefix c tried in
        let rest = λ (s : List Var) (now : Past). of_values Below manner p prefix v values (union failed s) now in
        elim answer.ended as (λ e. answer.ended ≡ e → (after_end manner v e answer.past rest).ended ≡ Found found → IsFoundAt p Below prefix v (n ∷ values) found) [
          | GaveUp ↦ λ e k. absurd (cc k)
          | Found t ↦ λ e k.
              elim (conflict p prefix c) as (λ x. conflict p prefix c ≡ x → (after_conflict x tried (Below (prefix ++ c ∷ []) tried)).ended ≡ Found found → IsFoundAt p Below prefix v (n ∷ values) found) [
                | None ↦ λ free l.
                    record { front = []; value = n; rest = values; all = refl; before = λ m none. absurd (contains-none m none); free = free; past = tried; goes_on = l }
                | Some s ↦ λ clash l. absurd (cc l)
              ] refl (e ∙ k)
          | Failed s ↦ λ e k.
              elim (manner.jumps && not (has s v)) as (λ b. (cond {A = Answer} b (record { ended = Failed s; past = answer.past }) (rest s answer.past)).ended ≡ Found found
              → IsFoundAt p Below prefix v (n ∷ values) found) [
                | true ↦ λ l. absurd (cc l)
                | false ↦ λ l.
                    let r = found-at fuel prefix v choices o found values (union failed s) answer.past (λ m i. are m (contains-tail n values m i)) l in
                    let refuted = value-sound p lawful Below manner prefix v choices o
                    (λ m now set is failed. failures-sound p lawful fuel manner (prefix ++ choice_of v m ∷ []) now set guide (All-push (IsChoice p) prefix (choice_of v m) choices is) failed)
                    n tried s (are n (contains-head n values)) e in
                    record {
                      front = n ∷ r.front;
                      value = r.value;
                      rest = r.rest;
                      all = ap (λ x. n ∷ x) r.all;
                      before = λ m i. elim (contains-cases n r.front m i) [
                        | inl same ↦ subst (λ x. IsRefuted p (prefix ++ choice_of v x ∷ [])) same (s, refuted)
                        | inr later ↦ r.before m later
                      ];
                      free = r.free;
                      past = r.past;
                      goes_on = r.goes_on;
                    }
              ] k
        ] refl h

    -- a step of a search that finds something: it ends here, or goes on with a value
    record IsStep (fuel : ℕ) (prefix : List Choice) (found : List Choice) : Type 0 where
      var : Var
      met : List (List Var)
      picked : manner.guide met (open_in p prefix) ≡ Some var
      place : IsFoundAt p (answer_from fuel manner p) prefix var (p.order var prefix) found
      choice : IsChoice p (choice_of var place.value)

    first-step : (fuel : ℕ) (prefix : List Choice) (past : Past) (found : List Choice) → All (IsChoice p) prefix
        → (answer_from (suc fuel) manner p prefix past).ended ≡ Found found → ((prefix ≡ found) × (open_in p prefix ≡ [])) ⊎ IsStep fuel prefix found
    first-step fuel prefix past found choices h =
        elim (manner.guide past.met (open_in p prefix)) as (λ x. manner.guide past.met (open_in p prefix) ≡ x
        → (with_next x (record { ended = Found prefix; past = past }) (λ v. of_values (answer_from fuel manner p) manner p prefix v (p.order v prefix) [] past)).ended ≡ Found found
        → ((prefix ≡ found) × (open_in p prefix ≡ [])) ⊎ IsStep fuel prefix found) [
          | None ↦ λ e k. inl (cc k, guide.none past.met (open_in p prefix) e)
          | Some v ↦ λ e k.
              let o = open-plain p lawful prefix v choices (guide.picked past.met (open_in p prefix) v e) in
              let known = open-known p lawful prefix v choices o in
              let order = lawful.order v known prefix choices in
              let below = λ (n : ℕ) (i : Contains (p.order v prefix) n). All-contains (λ x. x < p.domain v) (p.order v prefix) n order.below i in
              let at = found-at fuel prefix v choices o found (p.order v prefix) [] past below k in
              inr (record {
                var = v;
                met = past.met;
                picked = e;
                place = at;
                choice = record {
                  variable = known;
                  value = below at.value (subst (λ l. Contains l at.value) (sym at.all) (contains-right at.front (at.value ∷ at.rest) at.value (contains-head at.value at.rest)));
                };
              })
        ] refl h

    found-reaches : (Picks : List Choice → Var → Type 0) → PicksBy p manner.guide Picks → (fuel : ℕ) (prefix : List Choice) (past : Past) (found : List Choice) → All (IsChoice p) prefix
        → (answer_from fuel manner p prefix past).ended ≡ Found found → Reaches p Picks found prefix
    found-reaches Picks picks zero prefix past found choices h = here (cc h)
    found-reaches Picks picks (suc fuel) prefix past found choices h =
        elim (first-step fuel prefix past found choices h) [
          | inl end ↦ here end.0
          | inr s ↦
              goes s.var s.place.value (picks s.met prefix s.var s.picked) s.choice s.place.free
              (found-reaches Picks picks fuel (prefix ++ choice_of s.var s.place.value ∷ []) s.place.past found (All-push (IsChoice p) prefix (choice_of s.var s.place.value) choices s.choice) s.place.goes_on)
        ]

  abbrev HasRoom : ℕ → List Choice → Type 0
  HasRoom fuel trail = Room (general p) (general-lawful p lawful) fuel trail

  -- with room for every known variable nothing is open in the end
  found-whole : (manner : Manner) (guide : IsGuide manner.guide) (fuel : ℕ) (prefix : List Choice) (past : Past) (found : List Choice) → All (IsChoice p) prefix → HasRoom fuel prefix
      → (answer_from fuel manner p prefix past).ended ≡ Found found → open_in p found ≡ []
  found-whole manner guide zero prefix past found choices room h =
      let same : prefix ≡ found = cc h in
      subst (λ t. open_in p t ≡ []) same
      (elim (open_in p prefix) as (λ vars. open_in p prefix ≡ vars → vars ≡ []) [
        | [] ↦ λ e. refl
        | (v ∷ vars) ↦ λ e.
            let there : is_open p prefix v ≡ true = ap (λ l. has l v) e ∙ contains-has (v ∷ vars) v (contains-head v vars) in
            absurd (room-zero (general p) (general-lawful p lawful) prefix v (choices-general p prefix choices) there room)
      ] refl)
  found-whole manner guide (suc fuel) prefix past found choices room h =
      elim (first-step manner guide fuel prefix past found choices h) [
        | inl end ↦ subst (λ t. open_in p t ≡ []) end.0 end.1
        | inr s ↦
            found-whole manner guide fuel (prefix ++ choice_of s.var s.place.value ∷ []) s.place.past found (All-push (IsChoice p) prefix (choice_of s.var s.place.value) choices s.choice)
            (room-next (general p) (general-lawful p lawful) fuel prefix s.var s.place.value (choices-general p prefix choices) (guide.picked s.met (open_in p prefix) s.var s.picked) room) s.place.goes_on
      ]

  -- what was reached is kept

  -- before any choice the lasting rules give no set: roots have no edges
  roots-acyclic : (d : Demand) → Contains (active p []) d → lies_on_cycle (edges_of (active p [])) d ≡ false
  unfolding active
  roots-acyclic d h =
      let edges = edges_of (active p []) in
      elim (contains-append p.roots [] d h) [
        | inl root ↦ ap (λ condition. list_any (λ (e : Edge). leads (length edges) edges e.to e.from) (edges_from condition d.target)) (All-contains (IsRoot p) p.roots d lawful.roots root).condition
        | inr none ↦ absurd (contains-none d none)
      ]

  -- before any choice no two demands disagree
  nothing-apart : (d e : Demand) → disagree [] (d, e) ≡ false
  nothing-apart d e = and_right (must_agree (request_of d).owner d.target (request_of e).owner e.target) false refl

  pub lasting-start : lasting_set [] (active p []) ≡ None
  lasting-start = lasting-none [] (active p []) (acyclic-none (active p []) roots-acyclic) (no-clash [] (active p []) (λ d e h k. nothing-apart d e))

  kept-start : IsKept p []
  kept-start = record { unbarred = λ c h. absurd (contains-none c h); met = λ d n is h e. absurd (cc e); lasting = lasting-start }

  kept-push : (trail : List Choice) (c : Choice) → IsKept p trail → IsFree p trail c → IsKept p (trail ++ c ∷ [])
  kept-push trail c kept free = record {
    unbarred = λ e h. elim (contains-append trail (c ∷ []) e h) [
      | inl l ↦ kept.unbarred e l
      | inr r ↦ elim (contains-cases c [] e r) [ inl same ↦ subst (λ x. p.barred x ≡ false) same free.unbarred | inr none ↦ absurd (contains-none e none) ]
    ];
    met = λ d n is h e.
        elim (is_yes (value_in trail) d) as (λ b. is_yes (value_in trail) d ≡ b → is_one_of (Some n) d.allowed ≡ true) [
          | true ↦ λ before. elim (value_in-last trail c d.target n e) [
            | inl l ↦ kept.met d n is before l
            | inr r ↦ subst (λ m. is_one_of (Some m) d.allowed ≡ true) r.1 (free.allowed d (yes-active p lawful trail d is before) (sym r.0))
          ]
          | false ↦ λ before. free.kept d n (yes-made p lawful trail c d is h before) e
        ] refl;
    lasting = free.lasting;
  }

  reach-kept : (Picks : List Choice → Var → Type 0) (to from : List Choice) → Reaches p Picks to from → IsKept p from → IsKept p to
  reach-kept Picks to from (here e) kept = subst (λ t. IsKept p t) e kept
  reach-kept Picks to from (goes v n next is none a) kept = reach-kept Picks to (from ++ choice_of v n ∷ []) a (kept-push from (choice_of v n) kept (free p from (choice_of v n) none))

  -- the trail of a found trail's assignment
  reach-trail : (found : List Choice) (fuel : ℕ) (trail : List Choice) → Reaches p (Least p) found trail → All (IsChoice p) trail → HasRoom fuel trail → next_var (general p) found ≡ None
      → trail_from fuel (general p) (value_in found) trail ≡ found
  reach-trail found zero trail (here e) choices room none = e
  reach-trail found (suc fuel) trail (here e) choices room none =
      trail-end (general p) (value_in found) fuel trail (subst (λ t. next_var (general p) t ≡ None) (sym e) none) ∙ e
  reach-trail found zero trail (goes v n next is none a) choices room end = absurd (room-zero (general p) (general-lawful p lawful) trail v (choices-general p trail choices) (next-open (general p) trail v next) room)
  reach-trail found (suc fuel) trail (goes v n next is none a) choices room end =
      let rest = reach-front p (Least p) found (trail ++ choice_of v n ∷ []) a in
      let made : value_in found v ≡ Some n =
      subst (λ t. value_in t v ≡ Some n) (sym rest.1) (value_in-kept (trail ++ choice_of v n ∷ []) rest.0 v n (value_in-new trail [] v n (next-unchosen (general p) trail v next))) in
      trail-step (general p) (value_in found) fuel trail v n next made
      ∙ reach-trail found fuel (trail ++ choice_of v n ∷ []) a (All-push (IsChoice p) trail (choice_of v n) choices is)
      (room-next (general p) (general-lawful p lawful) fuel trail v n (choices-general p trail choices) (next-open (general p) trail v next) room) end

  -- an edge of a map is one of an active demand
  record IsActiveEdge (trail : List Choice) (v w : Var) : Type 0 where
    demand : Demand
    member : Contains (active p trail) demand
    edge : Contains (edges_by demand) (record { from = v; to = w })

  active-edge : (trail : List Choice) (v w : Var) → IsEdge (general p) p.known (value_in trail) v w → IsActiveEdge trail v w
  active-edge trail v w e =
      let plain = demand-plain p e.request e.demand in
      let d = plain.0 in
      let by = of-edge d.when d.target e.owner (ap (λ (x : Request). x.owner) plain.2 ∙ e.owner_is) in
      record {
        demand = d;
        member = yes-active p lawful trail d plain.1 (ap (λ (x : Request). x.is_yes (value_in trail)) plain.2 ∙ e.yes);
        edge = subst (λ x. Contains (edges_by d) (record { from = v; to = x })) (ap (λ (x : Request). x.target) plain.2 ∙ e.enters)
            (subst (λ x. Contains (edges_by d) (record { from = x; to = d.target })) e.leaves by);
      }

  edge-member : (trail : List Choice) (v w : Var) → (e : IsActiveEdge trail v w) → Contains (edges_of (active p trail)) (record { from = v; to = w })
  edge-member trail v w e = flat_map-contains edges_by (active p trail) e.demand (record { from = v; to = w }) e.member e.edge

  path-way : (trail : List Choice) (v w : Var) → IsPath (IsEdge (general p) p.known (value_in trail)) v w → Way (edges_of (active p trail)) v w
  path-way trail v w (last e) = step (record { from = v; to = w }) (edge-member trail v w (active-edge trail v w e)) refl (start refl)
  path-way trail v x (more {w = w} e path) = step (record { from = v; to = w }) (edge-member trail v w (active-edge trail v w e)) refl (path-way trail w x path)

  -- an edge, and a way back
  record IsLoop (trail : List Choice) (v w : Var) : Type 0 where
    middle : Var
    first : IsActiveEdge trail v middle
    rest : Way (edges_of (active p trail)) middle w

  path-loop : (trail : List Choice) (v w : Var) → IsPath (IsEdge (general p) p.known (value_in trail)) v w → IsLoop trail v w
  path-loop trail v w (last e) = record { middle = w; first = active-edge trail v w e; rest = start refl }
  path-loop trail v x (more {w = w} e path) = record { middle = w; first = active-edge trail v w e; rest = path-way trail w x path }

  no-loop : (trail : List Choice) (v : Var) → IsKept p trail → IsLoop trail v v → ⊥
  no-loop trail v kept loop =
      let edges = edges_of (active p trail) in
      let d = loop.first.demand in
      false≢true (sym (lasting-acyclic trail (active p trail) kept.lasting d loop.first.member)
      ∙ any-from (λ (e : Edge). leads (length edges) edges e.to e.from) (edges_by d) (record { from = v; to = loop.middle }) loop.first.edge (way-leads edges loop.middle v loop.rest))

  -- a trail that was reached from the start, and after which nothing is open

  module _ (Picks : List Choice → Var → Type 0) (opens : (trail : List Choice) (v : Var) → Picks trail v → Open p trail v)
      (found : List Choice) (way : Reaches p Picks found []) (end : open_in p found ≡ []) where
    found-kept : IsKept p found
    found-kept = reach-kept Picks found [] way kept-start

    found-choices : All (IsChoice p) found
    found-choices = reach-choices p Picks found [] way (All-nil (IsChoice p))

    found-choice : (c : Choice) → value_in found c.var ≡ Some c.val → IsChoice (general p) c
    found-choice c h = choice-general p c (All-contains (IsChoice p) found c found-choices (value_in-made found c.var c.val h))

    found-met : (r : Request) → IsDemand (general p) r → r.is_yes (value_in found) ≡ true → is_one_of (value_in found r.target) r.allowed ≡ true
    found-met r is h =
        let plain = demand-plain p r is in
        let d = plain.0 in
        let held = ap (λ (x : Request). x.is_yes (value_in found)) plain.2 ∙ h in
        let closed = and-false (r.is_yes (value_in found)) (is_none (value_in found r.target)) (next-none (general p) found (ap first_of end) r (yes-after (general p) found r (general-lawful p lawful) is h)) h in
        elim (value_in found r.target) as (λ o. value_in found r.target ≡ o → is_none o ≡ false → is_one_of o r.allowed ≡ true) [
          | None ↦ λ e k. absurd (false≢true (sym k))
          | Some n ↦ λ e k.
              subst (λ (x : Request). is_one_of (Some n) x.allowed ≡ true) plain.2
              (found-kept.met d n plain.1 held (ap (λ (x : Request). value_in found x.target) plain.2 ∙ e))
        ] refl closed

    -- a demand that is Yes, as one of those that are active, with a value
    record IsHeld (r : Request) : Type 0 where
      demand : Demand
      request : request_of demand ≡ r
      member : Contains (active p found) demand
      value : ℕ
      value_is : value_in found demand.target ≡ Some value

    found-held : (r : Request) → IsAsked (general p) p.known (value_in found) r → IsHeld r
    found-held r asked =
        let (d, is, same) = demand-plain p r asked.demand in
        let met = found-met r asked.demand asked.yes in
        elim (value_in found d.target) as (λ o. value_in found d.target ≡ o → is_one_of o r.allowed ≡ true → IsHeld r) [
          | None ↦ λ e k. absurd (false≢true k)
          | Some n ↦ λ e k. record {
            demand = d;
            request = same;
            member = yes-active p lawful found d is (ap (λ (x : Request). x.is_yes (value_in found)) same ∙ asked.yes);
            value = n;
            value_is = e;
          }
        ] refl (ap (λ (x : Request). is_one_of (value_in found x.target) r.allowed) same ∙ met)

    found-agree : (r s : Request) → IsAsked (general p) p.known (value_in found) r → IsAsked (general p) p.known (value_in found) s → must_agree r.owner r.target s.owner s.target ≡ true
        → value_in found r.target ≡ value_in found s.target
    found-agree r s of-r of-s must =
        let first = found-held r of-r in
        let second = found-held s of-s in
        let was : must_agree (request_of first.demand).owner first.demand.target (request_of second.demand).owner second.demand.target ≡ true =
        ap (λ (x : Request). must_agree x.owner x.target (request_of second.demand).owner second.demand.target) first.request
        ∙ ap (λ (x : Request). must_agree r.owner r.target x.owner x.target) second.request ∙ must in
        ap (λ (x : Request). value_in found x.target) (sym first.request) ∙ first.value_is
        ∙ ap Some (one-value found (active p found) first.demand second.demand first.value second.value (lasting-agree found (active p found) found-kept.lasting)
        first.member second.member was first.value_is second.value_is)
        ∙ sym (ap (λ (x : Request). value_in found x.target) (sym second.request) ∙ second.value_is)

    found-holds : HoldsWithin (general p) p.known (value_in found)
    found-holds = record {
      assignment = record { inside = λ v n h. (found-choice (choice_of v n) h).variable; choice = found-choice };
      unbarred = λ c h. found-kept.unbarred c (value_in-made found c.var c.val h);
      met = λ r is h known. found-met r is h;
      acyclic = λ v path. no-loop found v found-kept (path-loop found v v path);
      agree = found-agree;
    }

    found-whole-valid : IsWholeValid (general p) (value_in found)
    found-whole-valid = record {
      holds = found-holds;
      reached = named-alike p lawful found found-choices end (reach-opened p Picks opens found [] way none_opened);
    }

  -- what is found from a trail on that was reached, with room for every known variable
  pub record IsFoundFrom (prefix found : List Choice) : Type 0 where
    pub valid : IsWholeValid (general p) (value_in found)
    pub passes : Passes (value_in found) prefix
    pub new : AreNew found

  pub found-valid : (manner : Manner) (guide : IsGuide manner.guide) (fuel : ℕ) (prefix : List Choice) (past : Past) (found : List Choice) → Reaches p (Open p) prefix []
      → Room (general p) (general-lawful p lawful) fuel prefix → (answer_from fuel manner p prefix past).ended ≡ Found found → IsFoundFrom prefix found
  found-valid manner guide fuel prefix past found reached room h =
      let opens = λ (trail : List Choice) (v : Var) (k : Open p trail v). k in
      let choices = reach-choices p (Open p) prefix [] reached (All-nil (IsChoice p)) in
      let on = found-reaches manner guide (Open p) (λ met trail v k. guide.picked met (open_in p trail) v k) fuel prefix past found choices h in
      let way = reach-join p (Open p) prefix found [] reached on in
      let end = found-whole manner guide fuel prefix past found choices room h in
      let rest = reach-front p (Open p) found prefix on in
      record {
        valid = found-whole-valid (Open p) opens found way end;
        passes = passes-front (value_in found) prefix rest.0
            (subst (λ t. Passes (value_in found) t) rest.1 (reach-passes p (Open p) opens found [] way (λ c k. absurd (contains-none c k))));
        new = reach-new p (Open p) opens found [] way before_any;
      }

  -- a trail found by the least open variables is the trail of its assignment
  found-trail : (manner : Manner) → manner.guide ≡ least → (past : Past) (found : List Choice) → (answer_from p.bound manner p [] past).ended ≡ Found found
      → trail_of (general p) (value_in found) ≡ found
  found-trail manner by past found h =
      let guide = subst IsGuide (sym by) least-is-guide in
      let way = found-reaches manner guide (Least p) (λ met trail v k. ap (λ (g : Guide). g met (open_in p trail)) (sym by) ∙ k) p.bound [] past found (All-nil (IsChoice p)) h in
      let room = room-start (general p) (general-lawful p lawful) in
      reach-trail found p.bound [] way (All-nil (IsChoice p)) room (ap first_of (found-whole manner guide p.bound [] past found (All-nil (IsChoice p)) room h))

  -- nothing comes before what is found

  ends : (trail : List Choice) (c : Choice) (rest : List Choice) → trail ≡ trail ++ c ∷ rest → ⊥
  ends trail c rest h = let none : [] ≡ c ∷ rest = cancel-front trail [] (c ∷ rest) (append-nil trail ∙ h) in cc none

  -- the values before the one that was chosen were refuted
  record IsPlace (trail : List Choice) (v : Var) (n : ℕ) : Type 0 where
    front : List ℕ
    rest : List ℕ
    all : p.order v trail ≡ front ++ n ∷ rest
    before : (m : ℕ) → Contains front m → IsRefuted p (trail ++ choice_of v m ∷ [])

  module _ (manner : Manner) (guide : IsGuide manner.guide) where
    -- the step from a trail to the next choice of the one that was found
    record GoesBy (trail found : List Choice) (c : Choice) : Type 0 where
      place : IsPlace trail c.var c.val
      choice : IsChoice p c
      fuel : ℕ
      past : Past
      goes_on : (answer_from fuel manner p (trail ++ c ∷ []) past).ended ≡ Found found

    goes-by : (fuel : ℕ) (trail : List Choice) (past : Past) (found : List Choice) (c : Choice) (rest : List Choice) → All (IsChoice p) trail
        → (answer_from fuel manner p trail past).ended ≡ Found found → found ≡ trail ++ c ∷ rest → GoesBy trail found c
    goes-by zero trail past found c rest choices h e = let same : trail ≡ found = cc h in absurd (ends trail c rest (same ∙ e))
    goes-by (suc fuel) trail past found c rest choices h e =
        elim (first-step manner guide fuel trail past found choices h) [
          | inl end ↦ absurd (ends trail c rest (end.0 ∙ e))
          | inr s ↦
              let d = choice_of s.var s.place.value in
              let after = found-reaches manner guide (Open p) (λ met t v k. guide.picked met (open_in p t) v k) fuel (trail ++ d ∷ []) s.place.past found
              (All-push (IsChoice p) trail d choices s.choice) s.place.goes_on in
              let on = reach-front p (Open p) found (trail ++ d ∷ []) after in
              let both : d ∷ on.0 ≡ c ∷ rest = cancel-front trail (d ∷ on.0) (c ∷ rest) (sym (on.1 ∙ append_assoc trail (d ∷ []) on.0) ∙ e) in
              let same : d ≡ c = cc both in
              subst (λ x. GoesBy trail found x) same
              (record {
                place = record { front = s.place.front; rest = s.place.rest; all = s.place.all; before = s.place.before };
                choice = s.choice;
                fuel = fuel;
                past = s.place.past;
                goes_on = s.place.goes_on;
              })
        ]

    at-place : (found common : List Choice) (c : Choice) (rest : List Choice) (between : List Choice) (fuel : ℕ) (trail : List Choice) (past : Past) → All (IsChoice p) trail
        → (answer_from fuel manner p trail past).ended ≡ Found found → trail ++ between ≡ common → found ≡ common ++ c ∷ rest → IsPlace common c.var c.val
    at-place found common c rest [] fuel trail past choices h e k =
        let same : trail ≡ common = sym (append-nil trail) ∙ e in
        subst (λ t. IsPlace t c.var c.val) same (goes-by fuel trail past found c rest choices h (k ∙ ap (λ t. t ++ c ∷ rest) (sym same))).place
    at-place found common c rest (d ∷ between) fuel trail past choices h e k =
        let first = goes-by fuel trail past found d (between ++ c ∷ rest) choices h (k ∙ ap (λ t. t ++ c ∷ rest) (sym e) ∙ append_assoc trail (d ∷ between) (c ∷ rest)) in
        at-place found common c rest between first.fuel (trail ++ d ∷ []) first.past (All-push (IsChoice p) trail d choices first.choice) first.goes_on
        (append_assoc trail (d ∷ []) between ∙ e) k

  -- a search by the least open variables finds the first assignment
  found-first : (manner : Manner) → manner.guide ≡ least → (past : Past) (found : List Choice) → (answer_from p.bound manner p [] past).ended ≡ Found found → IsFirst (general p) (value_in found)
  found-first manner by past found h =
      let guide = subst IsGuide (sym by) least-is-guide in
      let is = found-valid manner guide p.bound [] past found (here refl) (room-start (general p) (general-lawful p lawful)) h in
      record {
        whole_valid = is.valid;
        none_before = λ B valid before.
            let common = before.common in
            let v = before.var in
            let m = choice_of v before.of_A in
            let place = at-place manner guide found common (choice_of v before.of_B) before.rest_of_B common p.bound [] past (All-nil (IsChoice p)) h refl
            (sym (found-trail manner by past found h) ∙ before.trail_of_B) in
            let whole = subst (Passes B) before.trail_of_A (passes-trail (general p) B p.bound [] (λ c k. absurd (contains-none c k))) in
            let passes = passes-front B (common ++ m ∷ []) before.rest_of_A (subst (Passes B) (sym (append_assoc common (m ∷ []) before.rest_of_A)) whole) in
            let choices = passes-choices (general p) (general-lawful p lawful) p.known B valid.holds common (passes-front B common (m ∷ []) passes) in
            let made = passes m (contains-right common (m ∷ []) m (contains-head m [])) in
            let known = (valid.holds.assignment.choice m made).variable in
            let once = (lawful.order v known common (choices-plain p common choices)).once in
            let front = earlier-in-front before.of_B before.of_A place.front place.rest before.earlier.0 before.earlier.1 before.earlier.2
            (subst (λ l. AllPairs (λ x y. x ≢ y) l) place.all once) (sym place.all ∙ before.earlier.3) in
            refuted-none (common ++ m ∷ []) (place.before before.of_A front) B valid.holds passes;
      }

  -- a failed search has a set that admits none, and no assignment is complete and valid
  none-at-all : (manner : Manner) → IsGuide manner.guide → (set : List Var) → (answer_from p.bound manner p [] nothing_yet).ended ≡ Failed set → AreNone p set
  none-at-all manner guide set e = (
    λ A holds. failures-sound p lawful p.bound manner [] nothing_yet set guide (All-nil (IsChoice p)) e A holds (λ v n h k. absurd (cc k)),
    λ A valid. failed-none p.bound manner [] nothing_yet set guide (All-nil (IsChoice p)) e A valid.holds (λ c k. absurd (contains-none c k)),
  )

  pub ends-right : IsRightEnd p (answer_of p Unlimited).ended
  unfolding guided_answer
  ends-right =
      let manner = unlimited least true in
      let answer = answer_from p.bound manner p [] nothing_yet in
      elim answer.ended as (λ e. answer.ended ≡ e → IsRightEnd p e) [
        | Found trail ↦ λ e. (value_in trail, found-first manner refl nothing_yet trail e, sym (found-trail manner refl nothing_yet trail e))
        | Failed set ↦ λ e. none-at-all manner least-is-guide set e
        | GaveUp ↦ λ e. never-gives-up p least p.bound true [] nothing_yet e
      ] refl

  pub ends-valid : (guide : Guide) → IsGuide guide → IsValidEnd p (guided_answer guide p Unlimited).ended
  unfolding guided_answer
  ends-valid guide is =
      let manner = unlimited guide true in
      let answer = answer_from p.bound manner p [] nothing_yet in
      elim answer.ended as (λ e. answer.ended ≡ e → IsValidEnd p e) [
        | Found trail ↦ λ e.
            let from = found-valid manner is p.bound [] nothing_yet trail (here refl) (room-start (general p) (general-lawful p lawful)) e in
            (from.new, from.valid)
        | Failed set ↦ λ e. none-at-all manner is set e
        | GaveUp ↦ λ e. never-gives-up p guide p.bound true [] nothing_yet e
      ] refl
