-- Shared: the edges of the active demands, by their targets and by their conditions.
use Rattle.std.proofs.Common.{◌≡◌, ◌↔◌, ℕ, zero, suc, ◌<◌, arith, length, get_or, true, false, cond, ◌&&◌, ◌||◌, List, [], ◌∷◌, Some, map, filter, refl, sym, ap, ◌∙◌, subst, inl, inr}
use Rattle.std.specs.List.{Contains, list_any, slice_get}
use Rattle.std.specs.Option.{option_to_list}
use Rattle.std.proofs.lemmas.Bool.{and_parts, and_from}
use Rattle.std.proofs.lemmas.List.{map-append}
use Rattle.qualified_goals.specs.declared.variable.Var.{Var}
use Rattle.choice_problem.specs.declared.problem.Choice.{Choice}
use Rattle.choice_problem.specs.declared.problem.Demand.{Demand}
use Rattle.qualified_goals.specs.Variable.{same_var}
use Rattle.qualified_goals.specs.SameVariable.{same_var-is, same_var-refl}
use Rattle.choice_problem.specs.Assignment.{is_yes}
use Rattle.choice_problem.specs.Trail.{value_in}
use Rattle.choice_problem.specs.Active.{asks_for}
use Rattle.choice_problem.specs.Conflict.{Edge, edges_from, edges_by, edges_of}
use Rattle.choice_problem.specs.ConflictSet.{has}
use Rattle.common_laws.specs.Lists.{contains-head, contains-none, contains-cases, contains-filter, contains-flat_map, flat_map-contains, filter-contains, any-from}
use Rattle.choice_problem.proofs.VariableSets.{same-back, has-append}
use Rattle.goal_links.specs.declared.mentions.Mention.{Mention}
use Rattle.goal_links.specs.Mentions.{places_on, places_of, vars_at, mention_of}
use Rattle.demand_cycles.specs.Cycles.{HasEdge, first_of_condition, owner_of}
use Rattle.choice_stack.specs.Stack.{demand_at, demands_at, are_naming, names, watchers_by, watchers_from, owners_of, turned, is_first, is_owned_by, source_on, sources_on, target_by, targets_by, AreTargets, IsSettled}
use Rattle.choice_stack.specs.View.{View}
use Rattle.choice_stack.proofs.StackLemmas.{targets-tail}

-- the demands at the places on a variable are those whose target it is
demands-on : (listed : List Demand) (v : Var) (ms : List Mention) → AreTargets listed ms → demands_at listed (places_on v ms) ≡ filter (asks_for v) (demands_at listed (places_of ms))
demands-on listed v [] h = refl
demands-on listed v (m ∷ ms) h =
    let more = demands-on listed v ms (targets-tail listed m ms h) in
    let d = demand_at listed m.place in
    elim (same_var m.var v) as (λ b. demands_at listed (map (λ x. x.place) (cond b (m ∷ filter (λ x. same_var x.var v) ms) (filter (λ x. same_var x.var v) ms)))
    ≡ cond b (d ∷ filter (asks_for v) (demands_at listed (places_of ms))) (filter (asks_for v) (demands_at listed (places_of ms)))) [
      | true ↦ ap (λ ds. d ∷ ds) more
      | false ↦ more
    ]
    ∙ ap (λ w. cond (same_var w v) (d ∷ filter (asks_for v) (demands_at listed (places_of ms))) (filter (asks_for v) (demands_at listed (places_of ms)))) (h.target [] m ms refl)

-- an edge of a demand leads from its owner to its target
edge-of-owner : (when : List Choice) (d : Demand) (v : Var) → d.when ≡ when → Contains (option_to_list (owner_of d)) v → (let e : Edge = record { from = v; to = d.target } in Contains (edges_by d) e)
edge-of-owner [] d v e h = absurd (contains-none v (subst (λ w. Contains (option_to_list (first_of_condition w)) v) e h))
edge-of-owner (owner ∷ others) d v e h =
    let is : owner.var ≡ v = elim (contains-cases owner.var [] v (subst (λ w. Contains (option_to_list (first_of_condition w)) v) e h)) [ inl k ↦ k | inr k ↦ absurd (contains-none v k) ] in
    let mine : Edge = record { from = owner.var; to = d.target } in
    subst (λ (w : List Choice). Contains {X = Edge} (edges_from w d.target) (record { from = v; to = d.target })) (sym e)
    (subst (λ (u : Var). Contains {X = Edge} (mine ∷ []) (record { from = u; to = d.target })) is (contains-head mine []))

-- the first of its condition is the owner
record IsOwner (d : Demand) (e : Edge) : Type 0 where
  owner : Choice
  others : List Choice
  condition : d.when ≡ owner ∷ others
  from : owner.var ≡ e.from
  to : d.target ≡ e.to

owner-of-edge : (when : List Choice) (d : Demand) (e : Edge) → d.when ≡ when → Contains (edges_by d) e → IsOwner d e
owner-of-edge [] d e is h = absurd (contains-none e (subst (λ w. Contains (edges_from w d.target) e) is h))
owner-of-edge (owner ∷ others) d e is h =
    let mine : Edge = record { from = owner.var; to = d.target } in
    let one : mine ≡ e =
    elim (contains-cases mine [] e (subst (λ w. Contains (edges_from w d.target) e) is h)) [ inl k ↦ k | inr k ↦ absurd (contains-none e k) ] in
    record { owner = owner; others = others; condition = is; from = ap (λ (x : Edge). x.from) one; to = ap (λ (x : Edge). x.to) one }

-- the owner's variable is in the condition
naming-owner : (d : Demand) (e : Edge) (v : Var) → IsOwner d e → e.from ≡ v → names v d ≡ true
naming-owner d e v owns leaves =
    ap (are_naming v) owns.condition ∙ ap (λ b. b || are_naming v owns.others) (ap (λ u. same_var u v) (owns.from ∙ leaves) ∙ same_var-refl v)

sources-edge : (listed : List Demand) (ms : List Mention) (to v : Var) → AreTargets listed ms → Contains (owners_of (demands_at listed (places_on to ms))) v → HasEdge (edges_of (demands_at listed (places_of ms))) v to
sources-edge listed ms to v h k =
    let all = demands_at listed (places_of ms) in
    let found = contains-flat_map (λ d. option_to_list (owner_of d)) (demands_at listed (places_on to ms)) v k in
    let among = contains-filter (asks_for to) all found.0 (subst (λ ds. Contains ds found.0) (demands-on listed to ms h) found.1) in
    let mine : Edge = record { from = v; to = found.0.target } in
    (mine, flat_map-contains edges_by all found.0 mine among.0 (edge-of-owner found.0.when found.0 v refl found.2), refl, same_var-is found.0.target to among.1)

edge-sources : (listed : List Demand) (ms : List Mention) (to v : Var) → AreTargets listed ms → HasEdge (edges_of (demands_at listed (places_of ms))) v to → Contains (owners_of (demands_at listed (places_on to ms))) v
edge-sources listed ms to v h (e, within, from, target) =
    let all = demands_at listed (places_of ms) in
    let found = contains-flat_map edges_by all e within in
    let owns = owner-of-edge found.0.when found.0 e refl found.2 in
    let asked : asks_for to found.0 ≡ true = ap (λ w. same_var w to) (owns.to ∙ target) ∙ same_var-refl to in
    let owner : owner_of found.0 ≡ Some v = ap first_of_condition owns.condition ∙ ap Some (owns.from ∙ from) in
    flat_map-contains (λ d. option_to_list (owner_of d)) (demands_at listed (places_on to ms)) found.0 v
    (subst (λ ds. Contains ds found.0) (sym (demands-on listed to ms h)) (filter-contains (asks_for to) all found.0 found.1 asked))
    (subst (λ o. Contains (option_to_list o) v) (sym owner) (contains-head v []))

-- the owners of the demands at the places on a variable are its sources
pub sources-at : (listed now : List Demand) (ms : List Mention) (places : List ℕ) (to : Var) (found : List Var) (active : List Demand) → AreTargets listed ms
    → found ≡ owners_of (demands_at now places) → now ≡ listed → places ≡ places_on to ms → demands_at listed (places_of ms) ≡ active
    → (v : Var) → (Contains found v) ↔ (HasEdge (edges_of active) v to)
sources-at listed now ms places to found active targets is same on active_is v =
    let owners : found ≡ owners_of (demands_at listed (places_on to ms)) =
    is ∙ ap (λ (ds : List Demand). owners_of (demands_at ds places)) same ∙ ap (λ (ps : List ℕ). owners_of (demands_at listed ps)) on in (
      λ h. subst (λ (ds : List Demand). HasEdge (edges_of ds) v to) active_is (sources-edge listed ms to v targets (subst (λ (vs : List Var). Contains vs v) owners h)),
      λ h. subst (λ (vs : List Var). Contains vs v) (sym owners)
          (edge-sources listed ms to v targets (subst (λ (ds : List Demand). HasEdge (edges_of ds) v to) (sym active_is) h)),
    )

-- the variables that listed demands wait for

naming-has : (n : ℕ) (v : Var) (when : List Choice) → has (vars_at (watchers_by n when)) v ≡ are_naming v when
naming-has n v [] = refl
naming-has n v (c ∷ rest) =
    elim (are_naming c.var rest) as (λ b. are_naming c.var rest ≡ b → has (vars_at (cond b (watchers_by n rest) (mention_of c.var n ∷ watchers_by n rest))) v ≡ same_var c.var v || are_naming v rest) [
      | true ↦ λ e.
          naming-has n v rest
          ∙ elim (same_var c.var v) as (λ b. same_var c.var v ≡ b → are_naming v rest ≡ b || are_naming v rest) [
            | true ↦ λ k. ap (λ w. are_naming w rest) (sym (same_var-is c.var v k)) ∙ e
            | false ↦ λ k. refl
          ] refl
      | false ↦ λ e. ap (λ b. same_var c.var v || b) (naming-has n v rest)
    ] refl

pub waits-has : (n : ℕ) (v : Var) (demands : List Demand) → has (vars_at (watchers_from n demands)) v ≡ list_any (names v) demands
waits-has n v [] = refl
waits-has n v (d ∷ demands) =
    ap (λ vs. has vs v) (map-append (λ m. m.var) (watchers_by n d.when) (watchers_from (suc n) demands))
    ∙ has-append (vars_at (watchers_by n d.when)) (vars_at (watchers_from (suc n) demands)) v
    ∙ ap (λ b. b || has (vars_at (watchers_from (suc n) demands)) v) (naming-has n v d.when) ∙ ap (λ b. names v d || b) (waits-has (suc n) v demands)

-- an edge starts at a variable that a demand's condition names
pub edge-names : (demands listed : List Demand) (v w : Var) → ((d : Demand) → Contains demands d → Contains listed d) → HasEdge (edges_of demands) v w → list_any (names v) listed ≡ true
edge-names demands listed v w within (e, there, from, target) =
    let found = contains-flat_map edges_by demands e there in
    let owns = owner-of-edge found.0.when found.0 e refl found.2 in
    any-from (names v) listed found.0 (within found.0 found.1) (naming-owner found.0 e v owns from)

-- where a variable owns all demands, all edges start at it
pub edge-owned : (demands : List Demand) (u v w : Var) → ((d : Demand) → Contains demands d → is_owned_by u d ≡ true) → HasEdge (edges_of demands) v w → same_var u v ≡ true
edge-owned demands u v w owned (e, there, from, target) =
    let found = contains-flat_map edges_by demands e there in
    let owns = owner-of-edge found.0.when found.0 e refl found.2 in
    same-back u v ∙ ap (λ x. same_var x u) (sym (owns.from ∙ from)) ∙ sym (ap (is_first u) owns.condition) ∙ owned found.0 found.1

pub active-at : (listed : List Demand) (ms : List Mention) (k : ℕ) (m : Mention) → k < length ms → m ≡ get_or ms k m → slice_get (demands_at listed (places_of ms)) k ≡ Some (demand_at listed m.place)
active-at listed [] k m h e = absurd (omega (arith, h))
active-at listed (x ∷ ms) zero m h e = ap (λ (y : Mention). Some (demand_at listed y.place)) (sym e)
active-at listed (x ∷ ms) (suc k) m h e = active-at listed ms k m (omega (arith, h)) e

-- the ends of edges from a variable

target-edge : (when : List Choice) (target from v : Var) → Contains (cond (is_first from when) (target ∷ []) []) v → (let e : Edge = record { from = from; to = v } in Contains (edges_from when target) e)
target-edge [] target from v h = absurd (contains-none v h)
target-edge (owner ∷ others) target from v h =
    let mine : Edge = record { from = owner.var; to = target } in
    elim (same_var owner.var from) as (λ b. same_var owner.var from ≡ b → Contains (cond b (target ∷ []) []) v → Contains {X = Edge} (mine ∷ []) (record { from = from; to = v })) [
      | true ↦ λ e k.
          let to : target ≡ v = elim (contains-cases target [] v k) [ inl same ↦ same | inr none ↦ absurd (contains-none v none) ] in
          subst (λ (u : Var). Contains {X = Edge} (mine ∷ []) (record { from = u; to = v })) (same_var-is owner.var from e)
          (subst (λ (u : Var). Contains {X = Edge} (mine ∷ []) (record { from = owner.var; to = u })) to (contains-head mine []))
      | false ↦ λ e k. absurd (contains-none v k)
    ] refl h

edge-target : (d : Demand) (e : Edge) (from v : Var) → IsOwner d e → e.from ≡ from → e.to ≡ v → Contains (target_by from d) v
edge-target d e from v owns leaves enters =
    let first : is_owned_by from d ≡ true = ap (is_first from) owns.condition ∙ ap (λ u. same_var u from) (owns.from ∙ leaves) ∙ same_var-refl from in
    subst (λ b. Contains (cond b (d.target ∷ []) []) v) (sym first) (subst (λ u. Contains (d.target ∷ []) u) (owns.to ∙ enters) (contains-head d.target []))

pub targets-edge : (x : View) (from v : Var) → IsSettled x → Contains (targets_by from (turned x.trail from x.listed)) v → HasEdge (edges_of x.active) from v
targets-edge x from v settled h =
    let test = λ (d : Demand). names from d && is_yes (value_in x.trail) d in
    let found = contains-flat_map (target_by from) (turned x.trail from x.listed) v h in
    let d = found.0 in
    let kept = contains-filter test x.listed d found.1 in
    let now_active = (settled d).1 (kept.0, (and_parts (names from d) (is_yes (value_in x.trail) d) kept.1).1) in
    let mine : Edge = record { from = from; to = v } in
    (mine, flat_map-contains edges_by x.active d mine now_active (target-edge d.when d.target from v found.2), refl, refl)

pub edge-targets : (x : View) (from v : Var) → IsSettled x → HasEdge (edges_of x.active) from v → Contains (targets_by from (turned x.trail from x.listed)) v
edge-targets x from v settled (e, within, leaves, enters) =
    let test = λ (d : Demand). names from d && is_yes (value_in x.trail) d in
    let found = contains-flat_map edges_by x.active e within in
    let d = found.0 in
    let owns = owner-of-edge d.when d e refl found.2 in
    let known = (settled d).0 found.1 in
    let kept = filter-contains test x.listed d known.0 (and_from (names from d) (is_yes (value_in x.trail) d) (naming-owner d e from owns leaves) known.1) in
    flat_map-contains (target_by from) (turned x.trail from x.listed) d v kept (edge-target d e from v owns leaves enters)

-- the owners of demands on a variable, and the targets of those that one owns

pub sources-are : (demands : List Demand) (to v : Var) → (Contains (sources_on to demands) v) ↔ (HasEdge (edges_of demands) v to)
sources-are demands to v = (
  λ h.
      let found = contains-flat_map (source_on to) demands v h in
      let d = found.0 in
      let mine : Edge = record { from = v; to = d.target } in
      elim (asks_for to d) as (λ b. asks_for to d ≡ b → Contains (cond b (option_to_list (owner_of d)) []) v → HasEdge (edges_of demands) v to) [
        | true ↦ λ e k. (mine, flat_map-contains edges_by demands d mine found.1 (edge-of-owner d.when d v refl k), refl, same_var-is d.target to e)
        | false ↦ λ e k. absurd (contains-none v k)
      ] refl found.2,
  λ (e, within, from, target).
      let found = contains-flat_map edges_by demands e within in
      let d = found.0 in
      let owns = owner-of-edge d.when d e refl found.2 in
      let asked : asks_for to d ≡ true = ap (λ w. same_var w to) (owns.to ∙ target) ∙ same_var-refl to in
      let owner : owner_of d ≡ Some v = ap first_of_condition owns.condition ∙ ap Some (owns.from ∙ from) in
      flat_map-contains (source_on to) demands d v found.1
      (subst (λ b. Contains (cond b (option_to_list (owner_of d)) []) v) (sym asked) (subst (λ o. Contains (option_to_list o) v) (sym owner) (contains-head v []))),
)

pub targets-are : (demands : List Demand) (from v : Var) → (Contains (targets_by from demands) v) ↔ (HasEdge (edges_of demands) from v)
targets-are demands from v = (
  λ h.
      let found = contains-flat_map (target_by from) demands v h in
      let d = found.0 in
      let mine : Edge = record { from = from; to = v } in
      (mine, flat_map-contains edges_by demands d mine found.1 (target-edge d.when d.target from v found.2), refl, refl),
  λ (e, within, leaves, enters).
      let found = contains-flat_map edges_by demands e within in
      let d = found.0 in
      let owns = owner-of-edge d.when d e refl found.2 in
      flat_map-contains (target_by from) demands d v found.1 (edge-target d e from v owns leaves enters),
)
