-- Queries: the demands on a variable, the first that passes a test, and the least open variable.
use Rattle.std.proofs.Common.{◌≡◌, ℕ, zero, suc, ◌<◌, arith, length, get_or, Bool, true, false, not, cond, ◌&&◌, ◌||◌, List, [], ◌∷◌, Option, None, Some, IfSome, is_none, find, map, filter, refl, sym, ap, ◌∙◌, subst}
use Rattle.std.specs.List.{slice_get}
use Rattle.std.specs.Option.{option_map}
use Rattle.std.specs.Iterator.{YieldsFirst}
use Rattle.qualified_goals.specs.declared.variable.Var.{Var}
use Rattle.choice_problem.specs.declared.problem.Choice.{Choice}
use Rattle.choice_problem.specs.declared.problem.Demand.{Demand}
use Rattle.qualified_goals.specs.Variable.{same_var}
use Rattle.qualified_goals.specs.SameVariable.{same_var-is}
use Rattle.choice_problem.specs.Assignment.{is_one_of}
use Rattle.choice_problem.specs.Trail.{value_in}
use Rattle.choice_problem.specs.Active.{is_waited_for, asks_for, waiting}
use Rattle.choice_problem.specs.Conflict.{refuses}
use Rattle.choice_problem.specs.ConflictSet.{has, is_rising}
use Rattle.choice_problem.proofs.VariableSets.{set-same, set_of-rising}
use Rattle.goal_links.specs.declared.mentions.Mention.{Mention}
use Rattle.goal_links.specs.Mentions.{indices_from, places_on, places_of, vars_at}
use Rattle.demand_agreement.specs.Places.{places_from}
use Rattle.choice_stack.specs.Stack.{demand_at, demands_at, AllBelow, AreTargets, AreOpen}
use Rattle.choice_stack.proofs.StackLemmas.{targets-tail}

pub targets-below : (listed : List Demand) (ms : List Mention) → AreTargets listed ms → AllBelow (length listed) (places_of ms)
targets-below listed [] h = tt
targets-below listed (m ∷ ms) h = (h.within [] m ms refl, targets-below listed ms (targets-tail listed m ms h))

pub on-below : (n : ℕ) (v : Var) (ms : List Mention) → AllBelow n (places_of ms) → AllBelow n (places_on v ms)
on-below n v [] h = tt
on-below n v (m ∷ ms) h =
    elim (same_var m.var v) as (λ b. AllBelow n (map (λ x. x.place) (cond b (m ∷ filter (λ x. same_var x.var v) ms) (filter (λ x. same_var x.var v) ms)))) [
      | true ↦ (h.0, on-below n v ms h.1)
      | false ↦ on-below n v ms h.1
    ]

pub place-below : (n : ℕ) (ms : List Mention) (k : ℕ) (d : Mention) → AllBelow n (places_of ms) → k < length ms → (get_or ms k d).place < n
place-below n [] k d h within = absurd (omega (arith, within))
place-below n (m ∷ ms) zero d h within = h.0
place-below n (m ∷ ms) (suc k) d h within = place-below n ms k d h.1 (omega (arith, within))

-- the first demand that passes a test, where only demands on a variable pass
pub find-on : (test : Demand → Bool) (listed : List Demand) (v : Var) (ms : List Mention) → AreTargets listed ms → ((d : Demand) → same_var d.target v ≡ false → test d ≡ false)
    → find test (demands_at listed (places_of ms)) ≡ find test (demands_at listed (places_on v ms))
find-on test listed v [] h only = refl
find-on test listed v (m ∷ ms) h only =
    let more = find-on test listed v ms (targets-tail listed m ms h) only in
    let d = demand_at listed m.place in
    elim (same_var m.var v) as (λ b. same_var m.var v ≡ b → cond (test d) (Some d) (find test (demands_at listed (places_of ms)))
    ≡ find test (demands_at listed (map (λ x. x.place) (cond b (m ∷ filter (λ x. same_var x.var v) ms) (filter (λ x. same_var x.var v) ms))))) [
      | true ↦ λ e. ap (λ o. cond (test d) (Some d) o) more
      | false ↦ λ e.
          let fails : test d ≡ false = only d (ap (λ w. same_var w v) (sym (h.target [] m ms refl)) ∙ e) in
          ap (λ b. cond b (Some d) (find test (demands_at listed (places_of ms)))) fails ∙ more
    ] refl

pub find-asks : (listed : List Demand) (v : Var) (ms : List Mention) → AreTargets listed ms → slice_get (demands_at listed (places_on v ms)) 0 ≡ find (asks_for v) (demands_at listed (places_of ms))
find-asks listed v [] h = refl
find-asks listed v (m ∷ ms) h =
    let more = find-asks listed v ms (targets-tail listed m ms h) in
    let d = demand_at listed m.place in
    let target : same_var d.target v ≡ same_var m.var v = ap (λ w. same_var w v) (sym (h.target [] m ms refl)) in
    elim (same_var m.var v) as (λ b. slice_get (demands_at listed (map (λ x. x.place) (cond b (m ∷ filter (λ x. same_var x.var v) ms) (filter (λ x. same_var x.var v) ms)))) 0
    ≡ cond b (Some d) (find (asks_for v) (demands_at listed (places_of ms)))) [ true ↦ refl | false ↦ more ]
    ∙ sym (ap (λ b. cond b (Some d) (find (asks_for v) (demands_at listed (places_of ms)))) target)

-- the demand at the first of the places
pub first-yielded : (listed : List Demand) (places : List ℕ) (first : Option ℕ) (rest : List ℕ) → YieldsFirst (λ (ps : List ℕ). ps) places first rest
    → option_map (demand_at listed) first ≡ slice_get (demands_at listed places) 0
first-yielded listed places None rest h = ap (λ ps. slice_get (demands_at listed ps) 0) (sym h.0)
first-yielded listed places (Some k) rest h = ap (λ ps. slice_get (demands_at listed ps) 0) (sym h)

pub first-below : (n : ℕ) (places : List ℕ) (first : Option ℕ) (rest : List ℕ) → YieldsFirst (λ (ps : List ℕ). ps) places first rest → AllBelow n places
    → IfSome first (λ k. k < n)
first-below n places None rest h below = tt
first-below n places (Some k) rest h below = (subst (AllBelow n) h below).0

pub refuses-only : (c : Choice) (d : Demand) → same_var d.target c.var ≡ false → refuses c d ≡ false
refuses-only c d h = ap (λ b. b && not (is_one_of (Some c.val) d.allowed)) h

-- the open targets

pub waiting-has : (trail : List Choice) (listed : List Demand) (ms : List Mention) (v : Var) → AreTargets listed ms
    → has (map (λ d. d.target) (filter (is_waited_for trail) (demands_at listed (places_of ms)))) v ≡ has (vars_at ms) v && is_none (value_in trail v)
waiting-has trail listed [] v h = elim (is_none (value_in trail v)) as (λ b. false ≡ false && b) [ true ↦ refl | false ↦ refl ]
waiting-has trail listed (m ∷ ms) v h =
    let d = demand_at listed m.place in
    let rest = filter (is_waited_for trail) (demands_at listed (places_of ms)) in
    let more = waiting-has trail listed ms v (targets-tail listed m ms h) in
    let same : (e : same_var m.var v ≡ true) → is_none (value_in trail m.var) ≡ is_none (value_in trail v) = λ e. ap (λ w. is_none (value_in trail w)) (same_var-is m.var v e) in
    let target : d.target ≡ m.var = sym (h.target [] m ms refl) in
    let first : has (map (λ x. x.target) (cond (is_none (value_in trail d.target)) (d ∷ rest) rest)) v ≡ cond (is_none (value_in trail m.var)) (same_var m.var v || has (map (λ x. x.target) rest) v) (has (map (λ x. x.target) rest) v) =
    elim (is_none (value_in trail d.target)) as (λ b. has (map (λ x. x.target) (cond b (d ∷ rest) rest)) v ≡ cond b (same_var d.target v || has (map (λ x. x.target) rest) v) (has (map (λ x. x.target) rest) v)) [ true ↦ refl | false ↦ refl ]
    ∙ ap (λ w. cond (is_none (value_in trail w)) (same_var w v || has (map (λ x. x.target) rest) v) (has (map (λ x. x.target) rest) v)) target in
    first ∙ ap (λ b. cond (is_none (value_in trail m.var)) (same_var m.var v || b) b) more
    ∙ elim (same_var m.var v) as (λ b. same_var m.var v ≡ b
    → cond (is_none (value_in trail m.var)) (b || (has (vars_at ms) v && is_none (value_in trail v))) (has (vars_at ms) v && is_none (value_in trail v))
    ≡ (b || has (vars_at ms) v) && is_none (value_in trail v)) [
      | true ↦ λ e.
          ap (λ n. cond n true (has (vars_at ms) v && is_none (value_in trail v))) (same e)
          ∙ elim (is_none (value_in trail v)) as (λ n. cond n true (has (vars_at ms) v && n) ≡ n) [
            | true ↦ refl
            | false ↦ elim (has (vars_at ms) v) as (λ b. b && false ≡ false) [ true ↦ refl | false ↦ refl ]
          ]
      | false ↦ λ e. elim (is_none (value_in trail m.var)) as (λ n.
          cond n (has (vars_at ms) v && is_none (value_in trail v)) (has (vars_at ms) v && is_none (value_in trail v)) ≡ has (vars_at ms) v && is_none (value_in trail v)) [
            | true ↦ refl
            | false ↦ refl
          ]
    ] refl

-- a rising list of the open variables is the list of open targets
pub waiting-is : (trail : List Choice) (listed : List Demand) (ms : List Mention) (vars : List Var) → AreTargets listed ms → AreOpen ms trail vars → is_rising vars ≡ true
    → vars ≡ waiting trail (demands_at listed (places_of ms))
waiting-is trail listed ms vars h opened rising =
    let targets = map (λ (d : Demand). d.target) (filter (is_waited_for trail) (demands_at listed (places_of ms))) in
    sym (set_of-rising vars rising) ∙ set-same vars targets (λ v. opened v ∙ sym (waiting-has trail listed ms v h))

pub places-below : (v : Var) (listed seen : List Demand) (ms : List Mention) (places : List ℕ) → AreTargets listed ms → seen ≡ listed → places ≡ places_on v ms → AllBelow (length seen) places
places-below v listed seen ms places h e is =
    subst (λ (ds : List Demand). AllBelow (length ds) places) (sym e) (subst (AllBelow (length listed)) (sym is) (on-below (length listed) v ms (targets-below listed ms h)))

-- the mentions of a variable have the places of the demands on it
pub mentions-places : (n : ℕ) (v : Var) (listed : List Demand) (ms : List Mention) → AreTargets listed ms → indices_from n v ms ≡ places_from n v (demands_at listed (places_of ms))
mentions-places n v listed [] h = refl
mentions-places n v listed (m ∷ ms) h =
    let later = indices_from (suc n) v ms in
    ap (λ w. cond (same_var w v) (n ∷ later) later) (h.target [] m ms refl)
    ∙ ap (λ l. cond (same_var (demand_at listed m.place).target v) (n ∷ l) l) (mentions-places (suc n) v listed ms (targets-tail listed m ms h))
