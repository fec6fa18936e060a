-- The places of the demands that name a variable and are Yes, as a stack finds them.
use Rattle.std.proofs.Common.{◌≡◌, ℕ, ◌+◌, ◌<◌, Bool, true, false, cond, List, [], ◌∷◌, ◌++◌, length, take, filter, refl, sym, ap, ◌∙◌, subst, arith}
use Rattle.std.proofs.lemmas.List.{map-append, take_more}
use Rattle.std.proofs.lemmas.List.Elements.{filter-append}
use Rattle.qualified_goals.specs.declared.variable.Var.{Var}
use Rattle.choice_problem.specs.declared.problem.Choice.{Choice}
use Rattle.choice_problem.specs.declared.problem.Demand.{Demand}
use Rattle.choice_problem.specs.Assignment.{is_yes}
use Rattle.choice_problem.specs.Trail.{value_in}
use Rattle.goal_links.specs.declared.mentions.Mention.{Mention}
use Rattle.goal_links.specs.Mentions.{places_on}
use Rattle.choice_stack.specs.Stack.{no_demand, demand_at, demands_at, watchers_from, AllBelow, is_turned, place_turned, target_by, targets_by, turned}
use Rattle.choice_stack.proofs.DemandPlaces.{below-append, waits-below, waits-demands}

pub turned-below : (v : Var) (listed seen : List Demand) (watchers : List Mention) (places : List ℕ) → watchers ≡ watchers_from 0 listed → places ≡ places_on v watchers
    → seen ≡ listed → AllBelow (length seen) places
turned-below v listed seen watchers places h e is =
    subst (λ (ds : List Demand). AllBelow (length ds) places) (sym is)
    (subst (AllBelow (length listed)) (sym (e ∙ ap (places_on v) h)) (waits-below 0 v listed (length listed) (omega arith)))

pub turned-seen : (v : Var) (trail : List Choice) (listed seen : List Demand) (watchers : List Mention) (places found : List ℕ)
    → watchers ≡ watchers_from 0 listed → places ≡ places_on v watchers → seen ≡ listed
    → found ≡ filter (λ k. is_yes (value_in trail) (demand_at seen k)) places → demands_at listed found ≡ turned trail v listed
turned-seen v trail listed seen watchers places found h e is found_is =
    ap (demands_at listed) (found_is ∙ ap (λ ds. filter (λ k. is_yes (value_in trail) (demand_at ds k)) places) is)
    ∙ ap (λ ps. demands_at listed (filter (λ k. is_yes (value_in trail) (demand_at listed k)) ps)) (e ∙ ap (places_on v) h)
    ∙ waits-demands v (is_yes (value_in trail)) [] listed listed refl

-- demands that become Yes, one after another

pub turned-next : (trail : List Choice) (v : Var) (listed : List Demand) (found : List ℕ) (n : ℕ) → n < length listed → demands_at listed found ≡ turned trail v (take n listed)
    → demands_at listed (found ++ place_turned trail v listed n) ≡ turned trail v (take (n + 1) listed)
turned-next trail v listed found n within h =
    let d = demand_at listed n in
    let one : demands_at listed (place_turned trail v listed n) ≡ cond (is_turned trail v d) (d ∷ []) [] =
    elim (is_turned trail v d) as (λ b. demands_at listed (cond b (n ∷ []) []) ≡ cond b (d ∷ []) []) [ true ↦ refl | false ↦ refl ] in
    map-append (demand_at listed) found (place_turned trail v listed n)
    ∙ ap (λ l. l ++ demands_at listed (place_turned trail v listed n)) h
    ∙ ap (λ l. turned trail v (take n listed) ++ l) one
    ∙ sym (ap (turned trail v) (take_more listed n no_demand within) ∙ filter-append (is_turned trail v) (take n listed) (d ∷ []))

pub below-next : (trail : List Choice) (v : Var) (listed : List Demand) (found : List ℕ) (n : ℕ) → n < length listed → AllBelow (length listed) found
    → AllBelow (length listed) (found ++ place_turned trail v listed n)
below-next trail v listed found n within h =
    below-append (length listed) found (place_turned trail v listed n) h
    (elim (is_turned trail v (demand_at listed n)) as (λ b. AllBelow (length listed) (cond b (n ∷ []) [])) [ true ↦ (within, tt) | false ↦ tt ])

-- the targets of the demands at the places that pass a test, from the first place on
pub targets-first : (test : ℕ → Bool) (owner : Var) (listed : List Demand) (k : ℕ) (rest : List ℕ)
    → targets_by owner (demands_at listed (filter test (k ∷ rest)))
    ≡ cond (test k) (target_by owner (demand_at listed k)) [] ++ targets_by owner (demands_at listed (filter test rest))
targets-first test owner listed k rest =
    elim (test k) as (λ b. targets_by owner (demands_at listed (cond b (k ∷ filter test rest) (filter test rest)))
    ≡ cond b (target_by owner (demand_at listed k)) [] ++ targets_by owner (demands_at listed (filter test rest))) [ true ↦ refl | false ↦ refl ]
