-- Shared: trails as assignments, their open variables, and the demands so far.
use Rattle.std.proofs.Common.{◌≡◌, ℕ, zero, suc, ◌≤◌, Bool, true, false, cond, ◌||◌, List, [], ◌∷◌, ◌++◌, length, map, get_or, append_assoc, arith, Option, Some, None, refl, sym, ap, ◌∙◌, subst, inl, inr, nat_eq}
use Rattle.std.specs.Prelude.{is_none, is_some, IsTrue}
use Rattle.std.specs.List.{Contains, All, filter, flat_map, list_all}
use Rattle.std.proofs.lemmas.Bool.{false≢true, eqb-true, eq-eqb, and_parts}
use Rattle.std.proofs.lemmas.List.Elements.{All-contains, Contains-get_or}
use Rattle.std.proofs.lemmas.List.{map-append, append-nil}
use Rattle.qualified_goals.specs.declared.variable.Var.{Var}
use Rattle.choice_problem.specs.declared.problem.Choice.{Choice}
use Rattle.choice_problem.specs.declared.problem.Demand.{Demand}
use Rattle.qualified_goals.specs.Variable.{same_var}
use Rattle.choice_problem.specs.Problem.{ProblemOf, Problem, IsChoice, IsDemand, IsRoot, IsOwned, Lawful}
use Rattle.choice_problem.specs.Assignment.{Assignment, is_one_of, is_made, is_yes}
use Rattle.choice_problem.specs.General.{Request, General, IsRootRequest, IsOwnedRequest, LawfulGeneral, owner_of, request_of, general}
use Rattle.choice_problem.specs.Holds.{HoldsWithin}
use Rattle.choice_problem.specs.ConflictSet.{has}
use Rattle.choice_problem.specs.Trail.{value_in, demands_after, opens, open_vars, next_var, with_next, with_value, choice_of, trail_from}
use Rattle.qualified_goals.specs.SameVariable.{same_var-is, same_var-refl}
use Rattle.common_laws.specs.Lists.{contains-head, contains-tail, contains-none, contains-cases, contains-left, contains-right, contains-append, contains-flat_map, flat_map-contains, contains-map, map-contains, without, contains-filter, filter-contains, all-at, all-from}
use Rattle.choice_problem.proofs.VariableSets.{has-contains, contains-has, has-set_of, first-has, first-none}

-- a trail as an assignment

-- what a test chooses
pub cond-true : {X : Type 0} (b : Bool) (x y : X) → b ≡ true → cond b x y ≡ x
cond-true true x y h = refl
cond-true false x y h = absurd (false≢true h)

pub cond-false : {X : Type 0} (b : Bool) (x y : X) → b ≡ false → cond b x y ≡ y
cond-false true x y h = absurd (false≢true (sym h))
cond-false false x y h = refl

-- a value that the trail gives is that of one of its choices
pub value_in-made : (trail : List Choice) (v : Var) (n : ℕ) → value_in trail v ≡ Some n → Contains trail (choice_of v n)
value_in-made [] v n h = absurd (cc h)
value_in-made (c ∷ trail) v n h =
    elim (same_var c.var v) as (λ b. same_var c.var v ≡ b → cond b (Some c.val) (value_in trail v) ≡ Some n → Contains (c ∷ trail) (choice_of v n)) [
      | true ↦ λ same k.
          let here : c ≡ choice_of v n = ap (λ w. choice_of w c.val) (same_var-is c.var v same) ∙ ap (choice_of v) (cc k) in
          subst (λ d. Contains (c ∷ trail) d) here (contains-head c trail)
      | false ↦ λ same k. contains-tail c trail (choice_of v n) (value_in-made trail v n k)
    ] refl h

-- a value stays when choices follow
pub value_in-kept : (trail more : List Choice) (v : Var) (n : ℕ) → value_in trail v ≡ Some n → value_in (trail ++ more) v ≡ Some n
value_in-kept [] more v n h = absurd (cc h)
value_in-kept (c ∷ trail) more v n h =
    elim (same_var c.var v) as (λ b. cond b (Some c.val) (value_in trail v) ≡ Some n → cond b (Some c.val) (value_in (trail ++ more) v) ≡ Some n) [
      | true ↦ λ k. k
      | false ↦ λ k. value_in-kept trail more v n k
    ] h

-- a variable without a value has the value of the choice that follows
pub value_in-new : (trail more : List Choice) (v : Var) (n : ℕ) → value_in trail v ≡ None → value_in (trail ++ choice_of v n ∷ more) v ≡ Some n
value_in-new [] more v n h = cond-true (same_var v v) (Some n) (value_in more v) (same_var-refl v)
value_in-new (c ∷ trail) more v n h =
    elim (same_var c.var v) as (λ b. cond b (Some c.val) (value_in trail v) ≡ None → cond b (Some c.val) (value_in (trail ++ choice_of v n ∷ more) v) ≡ Some n) [
      | true ↦ λ k. absurd (cc k)
      | false ↦ λ k. value_in-new trail more v n k
    ] h

-- what has no value after a choice had none before it, and isn't its variable
pub value_in-none : (trail more : List Choice) (v : Var) → value_in (trail ++ more) v ≡ None → value_in trail v ≡ None
value_in-none [] more v h = refl
value_in-none (c ∷ trail) more v h =
    elim (same_var c.var v) as (λ b. cond b (Some c.val) (value_in (trail ++ more) v) ≡ None → cond b (Some c.val) (value_in trail v) ≡ None) [
      | true ↦ λ k. k
      | false ↦ λ k. value_in-none trail more v k
    ] h

-- each variable of a choice has a value
pub value_in-some : (trail : List Choice) (c : Choice) → Contains trail c → is_some (value_in trail c.var) ≡ true
value_in-some [] c h = absurd (contains-none c h)
value_in-some (d ∷ trail) c h =
    elim (same_var d.var c.var) as (λ b. same_var d.var c.var ≡ b → is_some (cond b (Some d.val) (value_in trail c.var)) ≡ true) [
      | true ↦ λ same. refl
      | false ↦ λ other. elim (contains-cases d trail c h) [
        | inl e ↦ absurd (false≢true (sym other ∙ ap (λ x. same_var d.var x.var) (sym e) ∙ same_var-refl d.var))
        | inr r ↦ value_in-some trail c r
      ]
    ] refl

-- A makes all choices of the trail
abbrev pub Passes : Assignment → List Choice → Type 0
Passes A trail = (c : Choice) → Contains trail c → A c.var ≡ Some c.val

pub passes-value : (A : Assignment) (trail : List Choice) (v : Var) (n : ℕ) → Passes A trail → value_in trail v ≡ Some n → A v ≡ Some n
passes-value A trail v n passes h = passes (choice_of v n) (value_in-made trail v n h)

pub passes-push : (A : Assignment) (trail : List Choice) (c : Choice) → Passes A trail → A c.var ≡ Some c.val → Passes A (trail ++ c ∷ [])
passes-push A trail c passes h d k =
    elim (contains-append trail (c ∷ []) d k) [
      | inl l ↦ passes d l
      | inr r ↦ elim (contains-cases c [] d r) [ inl e ↦ subst (λ x. A x.var ≡ Some x.val) e h | inr none ↦ absurd (contains-none d none) ]
    ]

pub passes-front : (A : Assignment) (trail more : List Choice) → Passes A (trail ++ more) → Passes A trail
passes-front A trail more passes c k = passes c (contains-left trail more c k)

-- tests of choices and demands

pub is_made-is : (A : Assignment) (c : Choice) → is_made A c ≡ true → A c.var ≡ Some c.val
is_made-is A c h =
    elim (A c.var) as (λ o. is_one_of o (c.val ∷ []) ≡ true → o ≡ Some c.val) [
      | None ↦ λ k. absurd (false≢true k)
      | Some n ↦ λ k. ap Some (eqb-true n c.val (elim (nat_eq n c.val) as (λ b. b || false ≡ true → b ≡ true) [ true ↦ λ z. refl | false ↦ λ z. z ] k))
    ] h

pub is_made-from : (A : Assignment) (c : Choice) → A c.var ≡ Some c.val → is_made A c ≡ true
is_made-from A c h = ap (λ o. is_one_of o (c.val ∷ [])) h ∙ ap (λ b. b || false) (eq-eqb c.val c.val refl)

pub passes-yes : (A : Assignment) (trail : List Choice) (d : Demand) → Passes A trail → is_yes (value_in trail) d ≡ true → is_yes A d ≡ true
passes-yes A trail d passes h =
    all-from (is_made A) d.when (λ c k. is_made-from A c (passes-value A trail c.var c.val passes (is_made-is (value_in trail) c (all-at (is_made (value_in trail)) d.when c h k))))

-- the variables that are open

abbrev pub targets_open : List Choice → List Request → List Var
targets_open trail requests = map (λ r. r.target) (filter (opens trail) requests)

pub none-is : {X : Type 0} (o : Option X) → is_none o ≡ true → o ≡ None
none-is None h = refl
none-is (Some x) h = absurd (false≢true h)

-- an open variable is the target of a demand that opens it
pub record Opens (g : General) (trail : List Choice) (v : Var) : Type 0 where
  pub request : Request
  pub member : Contains (demands_after g trail) request
  pub opens_it : opens trail request ≡ true
  pub target : request.target ≡ v

pub open-is : (g : General) (trail : List Choice) (v : Var) → has (open_vars g trail) v ≡ true → Opens g trail v
unfolding open_vars
open-is g trail v h =
    let targets = targets_open trail (demands_after g trail) in
    let found = contains-map (λ (r : Request). r.target) (filter (opens trail) (demands_after g trail)) v (has-contains targets v (sym (has-set_of targets v) ∙ h)) in
    let kept = contains-filter (opens trail) (demands_after g trail) found.0 found.1 in
    record { request = found.0; member = kept.0; opens_it = kept.1; target = found.2 }

pub is-open : (g : General) (trail : List Choice) (v : Var) → Opens g trail v → has (open_vars g trail) v ≡ true
unfolding open_vars
is-open g trail v o =
    let targets = targets_open trail (demands_after g trail) in
    has-set_of targets v
    ∙ contains-has targets v
    (subst (λ w. Contains targets w) o.target
    (map-contains (λ (r : Request). r.target) (filter (opens trail) (demands_after g trail)) o.request (filter-contains (opens trail) (demands_after g trail) o.request o.member o.opens_it)))

-- it isn't chosen yet
pub open-unchosen : (g : General) (trail : List Choice) (v : Var) → has (open_vars g trail) v ≡ true → value_in trail v ≡ None
open-unchosen g trail v h =
    let o = open-is g trail v h in
    let r = o.request in
    subst (λ w. value_in trail w ≡ None) o.target (none-is (value_in trail r.target) ((and_parts (r.is_yes (value_in trail)) (is_none (value_in trail r.target)) o.opens_it).1))

-- the least open variable is open
pub next-open : (g : General) (trail : List Choice) (v : Var) → next_var g trail ≡ Some v → has (open_vars g trail) v ≡ true
next-open g trail v h = first-has (open_vars g trail) v h

-- where none is open, no demand opens one
pub next-none : (g : General) (trail : List Choice) → next_var g trail ≡ None → (r : Request) → Contains (demands_after g trail) r → opens trail r ≡ false
next-none g trail h r k =
    elim (opens trail r) as (λ b. opens trail r ≡ b → b ≡ false) [
      | true ↦ λ e.
          let asked = is-open g trail r.target (record { request = r; member = k; opens_it = e; target = refl }) in
          absurd (false≢true (ap (λ vs. has vs r.target) (sym (first-none (open_vars g trail) h)) ∙ asked))
      | false ↦ λ e. refl
    ] refl

pub next-unchosen : (g : General) (trail : List Choice) (v : Var) → next_var g trail ≡ Some v → value_in trail v ≡ None
next-unchosen g trail v h = open-unchosen g trail v (next-open g trail v h)

-- the demands so far

pub demand-after : {D : Type 0} (p : ProblemOf D) (trail : List Choice) (d : D) → All (IsChoice p) trail → Contains (demands_after p trail) d → IsDemand p d
demand-after p trail d choices h =
    elim (contains-append p.roots (flat_map p.demands trail) d h) [
      | inl l ↦ inl l
      | inr r ↦
          let found = contains-flat_map p.demands trail d r in
          inr (found.0, All-contains (IsChoice p) trail found.0 choices found.1, found.2)
    ]

pub target-known : (g : General) (r : Request) → LawfulGeneral g → IsDemand g r → IsTrue (g.known r.target)
target-known g r lawful (inl root) = (All-contains (IsRootRequest g) g.roots r lawful.roots root).target
target-known g r lawful (inr (owner, is, owns)) = (All-contains (IsOwnedRequest g owner) (g.demands owner) r (lawful.demands owner is) owns).target

-- a demand that is Yes under a trail is one of those so far
pub yes-after : (g : General) (trail : List Choice) (r : Request) → LawfulGeneral g → IsDemand g r → r.is_yes (value_in trail) ≡ true → Contains (demands_after g trail) r
yes-after g trail r lawful (inl root) h = contains-left g.roots (flat_map g.demands trail) r root
yes-after g trail r lawful (inr (owner, is, owns)) h =
    let owned = All-contains (IsOwnedRequest g owner) (g.demands owner) r (lawful.demands owner is) owns in
    contains-right g.roots (flat_map g.demands trail) r
    (flat_map-contains g.demands trail owner r (value_in-made trail owner.var owner.val (owned.chosen (value_in trail) h)) owns)

-- how many known variables may still be chosen

module _ (g : General) (lawful : LawfulGeneral g) where
  pub record Room (fuel : ℕ) (trail : List Choice) : Type 0 where
    pub unchosen : List Var
    pub count : length unchosen ≤ fuel
    pub each : (v : Var) → IsTrue (g.known v) → value_in trail v ≡ None → Contains unchosen v

  pub room-start : Room g.bound []
  room-start = record { unchosen = lawful.bounded.variables; count = lawful.bounded.count; each = λ v k none. lawful.bounded.each v k }

  pub open-known : (trail : List Choice) (v : Var) → All (IsChoice g) trail → has (open_vars g trail) v ≡ true → IsTrue (g.known v)
  open-known trail v choices h =
      let o = open-is g trail v h in
      subst (λ w. IsTrue (g.known w)) o.target (target-known g o.request lawful (demand-after g trail o.request choices o.member))

  pub next-known : (trail : List Choice) (v : Var) → All (IsChoice g) trail → next_var g trail ≡ Some v → IsTrue (g.known v)
  next-known trail v choices h = open-known trail v choices (next-open g trail v h)

  pub room-zero : (trail : List Choice) (v : Var) → All (IsChoice g) trail → has (open_vars g trail) v ≡ true → Room zero trail → ⊥
  room-zero trail v choices h room =
      let found = without room.unchosen v (room.each v (open-known trail v choices h) (open-unchosen g trail v h)) in
      omega (arith, found.1, room.count)

  pub room-next : (fuel : ℕ) (trail : List Choice) (v : Var) (n : ℕ) → All (IsChoice g) trail → has (open_vars g trail) v ≡ true → Room (suc fuel) trail → Room fuel (trail ++ choice_of v n ∷ [])
  room-next fuel trail v n choices h room =
      let unchosen = open-unchosen g trail v h in
      let found = without room.unchosen v (room.each v (open-known trail v choices h) unchosen) in
      record {
        unchosen = found.0;
        count = omega (arith, found.1, room.count);
        each = λ w k none. found.2 w (room.each w k (value_in-none trail (choice_of v n ∷ []) w none))
            (λ same. let made : None ≡ Some n = sym none ∙ ap (value_in (trail ++ choice_of v n ∷ [])) (sym same) ∙ value_in-new trail [] v n unchosen in cc made);
      }

  -- the choices of a trail that an assignment makes, which holds
  pub passes-choices : (set : Var → Bool) (A : Assignment) → HoldsWithin g set A → (trail : List Choice) → Passes A trail → All (IsChoice g) trail
  passes-choices set A holds trail passes k d h = holds.assignment.choice (get_or trail k d) (passes (get_or trail k d) (Contains-get_or trail k d h))

-- the steps of a trail

pub trail-step : (g : General) (A : Assignment) (fuel : ℕ) (trail : List Choice) (v : Var) (n : ℕ) → next_var g trail ≡ Some v → A v ≡ Some n
    → trail_from (suc fuel) g A trail ≡ trail_from fuel g A (trail ++ choice_of v n ∷ [])
trail-step g A fuel trail v n next made =
    ap (λ o. with_next o trail (λ w. with_value (A w) trail (λ m. trail_from fuel g A (trail ++ choice_of w m ∷ [])))) next
    ∙ ap (λ o. with_value o trail (λ m. trail_from fuel g A (trail ++ choice_of v m ∷ []))) made

pub trail-end : (g : General) (A : Assignment) (fuel : ℕ) (trail : List Choice) → next_var g trail ≡ None → trail_from (suc fuel) g A trail ≡ trail
trail-end g A fuel trail next = ap (λ o. with_next o trail (λ w. with_value (A w) trail (λ m. trail_from fuel g A (trail ++ choice_of w m ∷ [])))) next

-- a trail ends where A has no value for the next variable
pub trail-stop : (g : General) (A : Assignment) (fuel : ℕ) (trail : List Choice) (v : Var) → next_var g trail ≡ Some v → A v ≡ None → trail_from (suc fuel) g A trail ≡ trail
trail-stop g A fuel trail v next none =
    ap (λ o. with_next o trail (λ w. with_value (A w) trail (λ m. trail_from fuel g A (trail ++ choice_of w m ∷ [])))) next
    ∙ ap (λ o. with_value o trail (λ m. trail_from fuel g A (trail ++ choice_of v m ∷ []))) none

pub trail-front : (g : General) (A : Assignment) (fuel : ℕ) (trail : List Choice) → (more : List Choice) × (trail_from fuel g A trail ≡ trail ++ more)
trail-front g A zero trail = ([], sym (append-nil trail))
trail-front g A (suc fuel) trail =
    elim (next_var g trail) as (λ o. (more : List Choice) × (with_next o trail (λ v. with_value (A v) trail (λ n. trail_from fuel g A (trail ++ choice_of v n ∷ []))) ≡ trail ++ more)) [
      | None ↦ ([], sym (append-nil trail))
      | Some v ↦ elim (A v) as (λ o. (more : List Choice) × (with_value o trail (λ n. trail_from fuel g A (trail ++ choice_of v n ∷ [])) ≡ trail ++ more)) [
        | None ↦ ([], sym (append-nil trail))
        | Some n ↦ let rest = trail-front g A fuel (trail ++ choice_of v n ∷ []) in (choice_of v n ∷ rest.0, rest.1 ∙ append_assoc trail (choice_of v n ∷ []) rest.0)
      ]
    ]

pub passes-trail : (g : General) (A : Assignment) (fuel : ℕ) (trail : List Choice) → Passes A trail → Passes A (trail_from fuel g A trail)
passes-trail g A zero trail passes = passes
passes-trail g A (suc fuel) trail passes =
    elim (next_var g trail) as (λ o. Passes A (with_next o trail (λ v. with_value (A v) trail (λ n. trail_from fuel g A (trail ++ choice_of v n ∷ []))))) [
      | None ↦ passes
      | Some v ↦ elim (A v) as (λ o. A v ≡ o → Passes A (with_value o trail (λ n. trail_from fuel g A (trail ++ choice_of v n ∷ [])))) [
        | None ↦ λ e. passes
        | Some n ↦ λ e. passes-trail g A fuel (trail ++ choice_of v n ∷ []) (passes-push A trail (choice_of v n) passes e)
      ] refl
    ]

-- a problem that is searched, as a general one

module _ (p : Problem) where
  pub choice-general : (c : Choice) → IsChoice p c → IsChoice (general p) c
  choice-general c is = record { variable = is.variable; value = is.value }

  pub choice-plain : (c : Choice) → IsChoice (general p) c → IsChoice p c
  choice-plain c is = record { variable = is.variable; value = is.value }

  pub choices-general : (trail : List Choice) → All (IsChoice p) trail → All (IsChoice (general p)) trail
  choices-general trail choices k d h = choice-general (get_or trail k d) (choices k d h)

  pub choices-plain : (trail : List Choice) → All (IsChoice (general p)) trail → All (IsChoice p) trail
  choices-plain trail choices k d h = choice-plain (get_or trail k d) (choices k d h)

  pub demand-general : (d : Demand) → IsDemand p d → IsDemand (general p) (request_of d)
  demand-general d (inl root) = inl (map-contains request_of p.roots d root)
  demand-general d (inr (owner, is, owns)) = inr (owner, choice-general owner is, map-contains request_of (p.demands owner) d owns)

  pub demand-plain : (r : Request) → IsDemand (general p) r → (d : Demand) × IsDemand p d × (request_of d ≡ r)
  demand-plain r (inl root) = let found = contains-map request_of p.roots r root in (found.0, inl found.1, found.2)
  demand-plain r (inr (owner, is, owns)) =
      let found = contains-map request_of (p.demands owner) r owns in
      (found.0, inr (owner, choice-plain owner is, found.1), found.2)

  map-demands : (trail : List Choice) → map request_of (flat_map p.demands trail) ≡ flat_map (λ owner. map request_of (p.demands owner)) trail
  map-demands [] = refl
  map-demands (c ∷ trail) = map-append request_of (p.demands c) (flat_map p.demands trail) ∙ ap (λ l. map request_of (p.demands c) ++ l) (map-demands trail)

  -- the demands so far are the same
  pub demands-general : (trail : List Choice) → demands_after (general p) trail ≡ map request_of (demands_after p trail)
  demands-general trail = sym (map-append request_of p.roots (flat_map p.demands trail) ∙ ap (λ l. map request_of p.roots ++ l) (map-demands trail))

  pub after-general : (trail : List Choice) (d : Demand) → Contains (demands_after p trail) d → Contains (demands_after (general p) trail) (request_of d)
  after-general trail d h = subst (λ l. Contains l (request_of d)) (sym (demands-general trail)) (map-contains request_of (demands_after p trail) d h)

  pub after-plain : (trail : List Choice) (r : Request) → Contains (demands_after (general p) trail) r → (d : Demand) × Contains (demands_after p trail) d × (request_of d ≡ r)
  after-plain trail r h = contains-map request_of (demands_after p trail) r (subst (λ l. Contains l r) (demands-general trail) h)

  -- what is Yes under a trail is Yes under what makes its choices
  pub passes-yes-general : (A : Assignment) (trail : List Choice) (r : Request) → IsDemand (general p) r → Passes A trail → r.is_yes (value_in trail) ≡ true → r.is_yes A ≡ true
  passes-yes-general A trail r is passes =
      let plain = demand-plain r is in
      subst (λ x. x.is_yes (value_in trail) ≡ true → x.is_yes A ≡ true) plain.2 (passes-yes A trail plain.0 passes)

  root-request : (d : Demand) → IsRoot p d → IsRootRequest (general p) (request_of d)
  root-request d is = record { owner = ap owner_of is.condition; target = is.target }

  -- an owned demand that is Yes has its owner made
  pub owner-made : (A : Assignment) (owner : Choice) (d : Demand) → IsOwned p owner d → is_yes A d ≡ true → A owner.var ≡ Some owner.val
  owner-made A owner d owned h =
      is_made-is A owner ((and_parts (is_made A owner) (list_all (is_made A) owned.others) (subst (λ l. list_all (is_made A) l ≡ true) owned.condition h)).0)

  owned-request : (owner : Choice) (d : Demand) → IsOwned p owner d → IsOwnedRequest (general p) owner (request_of d)
  owned-request owner d owned = record { owner_is = ap owner_of owned.condition; target = owned.target; chosen = λ A h. owner-made A owner d owned h }

  all-mapped : (P : Demand → Type 0) (Q : Request → Type 0) (ds : List Demand) → ((d : Demand) → P d → Q (request_of d)) → All P ds → All Q (map request_of ds)
  all-mapped P Q ds f all k x h =
      let found = contains-map request_of ds (get_or (map request_of ds) k x) (Contains-get_or (map request_of ds) k x h) in
      subst Q found.2 (f found.0 (All-contains P ds found.0 all found.1))

  -- the general problem is lawful
  pub general-lawful : Lawful p → LawfulGeneral (general p)
  general-lawful lawful = record {
    bounded = record { variables = lawful.bounded.variables; count = lawful.bounded.count; each = lawful.bounded.each };
    order = λ v known trail choices. lawful.order v known trail (choices-plain trail choices);
    roots = all-mapped (IsRoot p) (IsRootRequest (general p)) p.roots root-request lawful.roots;
    demands = λ owner is. all-mapped (IsOwned p owner) (IsOwnedRequest (general p) owner) (p.demands owner) (owned-request owner) (lawful.demands owner (choice-plain owner is));
  }
