-- Shared: places of demands that are listed, and those of the demands that name a variable.
use Rattle.std.proofs.Common.{◌≡◌, ℕ, suc, ◌+◌, ◌<◌, arith, length, get_or, Some, Bool, true, false, cond, ◌&&◌, ◌||◌, List, [], ◌∷◌, ◌++◌, map, filter, refl, sym, ap, ◌∙◌, subst, append_assoc, length-append}
use Rattle.std.specs.List.{slice_get}
use Rattle.std.specs.Option.{option_map}
use Rattle.std.proofs.lemmas.Option.{slice_get-get_or, slice_get-map}
use Rattle.std.proofs.Math.Seq.{get_or-append_seam}
use Rattle.qualified_goals.specs.declared.variable.Var.{Var}
use Rattle.choice_problem.specs.declared.problem.Choice.{Choice}
use Rattle.choice_problem.specs.declared.problem.Demand.{Demand}
use Rattle.qualified_goals.specs.Variable.{same_var}
use Rattle.qualified_goals.specs.SameVariable.{same_var-is}
use Rattle.goal_links.specs.Mentions.{places_on, mention_of}
use Rattle.choice_stack.specs.Stack.{no_demand, demand_at, demands_at, are_naming, names, watchers_by, watchers_from, AllBelow}
use Rattle.goal_links.proofs.ChainWalks.{places-append}
pub use Rattle.demand_agreement.proofs.NumberBounds.{below-at, below-filter, below-more, below-append}

-- a demand waits for a variable once, where its condition names it
waits-on : (n : ℕ) (v : Var) (when : List Choice) → places_on v (watchers_by n when) ≡ cond (are_naming v when) (n ∷ []) []
waits-on n v [] = refl
waits-on n v (c ∷ rest) =
    elim (are_naming c.var rest) as (λ b. are_naming c.var rest ≡ b
    → places_on v (cond b (watchers_by n rest) (mention_of c.var n ∷ watchers_by n rest)) ≡ cond (same_var c.var v || are_naming v rest) (n ∷ []) []) [
      | true ↦ λ e.
          waits-on n v rest
          ∙ elim (same_var c.var v) as (λ b. same_var c.var v ≡ b → cond (are_naming v rest) (n ∷ []) [] ≡ cond (b || are_naming v rest) (n ∷ []) []) [
            | true ↦ λ k. ap (λ b. cond b (n ∷ []) []) (ap (λ w. are_naming w rest) (sym (same_var-is c.var v k)) ∙ e)
            | false ↦ λ k. refl
          ] refl
      | false ↦ λ e.
          elim (same_var c.var v) as (λ b. same_var c.var v ≡ b
          → map (λ m. m.place) (cond b (mention_of c.var n ∷ filter (λ m. same_var m.var v) (watchers_by n rest)) (filter (λ m. same_var m.var v) (watchers_by n rest)))
          ≡ cond (b || are_naming v rest) (n ∷ []) []) [
            | true ↦ λ k. ap (λ l. n ∷ l) (waits-on n v rest ∙ ap (λ b. cond b (n ∷ []) []) (ap (λ w. are_naming w rest) (sym (same_var-is c.var v k)) ∙ e))
            | false ↦ λ k. waits-on n v rest
          ] refl
    ] refl

pub waits-below : (n : ℕ) (v : Var) (demands : List Demand) (m : ℕ) → n + length demands ≡ m → AllBelow m (places_on v (watchers_from n demands))
waits-below n v [] m h = tt
waits-below n v (d ∷ demands) m h =
    subst (AllBelow m) (sym (places-append v (watchers_by n d.when) (watchers_from (suc n) demands)))
    (below-append m (places_on v (watchers_by n d.when)) (places_on v (watchers_from (suc n) demands))
    (subst (AllBelow m) (sym (waits-on n v d.when)) (elim (are_naming v d.when) as (λ b. AllBelow m (cond b (n ∷ []) [])) [
      | true ↦ (let less : n < m = omega (arith, h) in less, tt)
      | false ↦ tt
    ]))
    (waits-below (suc n) v demands m (omega (arith, h))))

-- the demands at the places of those that name a variable and pass a test
pub waits-demands : (v : Var) (test : Demand → Bool) (before demands all : List Demand) → all ≡ before ++ demands
    → demands_at all (filter (λ k. test (demand_at all k)) (places_on v (watchers_from (length before) demands))) ≡ filter (λ d. names v d && test d) demands
waits-demands v test before [] all e = refl
waits-demands v test before (d ∷ demands) all e =
    let here : demand_at all (length before) ≡ d = ap (λ ds. demand_at ds (length before)) e ∙ get_or-append_seam before d demands no_demand in
    let next : all ≡ (before ++ d ∷ []) ++ demands = e ∙ sym (append_assoc before (d ∷ []) demands) in
    let count : suc (length before) ≡ length (before ++ d ∷ []) = omega (arith, length-append before (d ∷ [])) in
    let more = ap (λ n. demands_at all (filter (λ k. test (demand_at all k)) (places_on v (watchers_from n demands)))) count ∙ waits-demands v test (before ++ d ∷ []) demands all next in
    ap (λ ps. demands_at all (filter (λ k. test (demand_at all k)) ps)) (places-append v (watchers_by (length before) d.when) (watchers_from (suc (length before)) demands))
    ∙ ap (λ ps. demands_at all (filter (λ k. test (demand_at all k)) (ps ++ places_on v (watchers_from (suc (length before)) demands)))) (waits-on (length before) v d.when)
    ∙ elim (are_naming v d.when) as (λ b.
    demands_at all (filter (λ k. test (demand_at all k)) (cond b (length before ∷ []) [] ++ places_on v (watchers_from (suc (length before)) demands)))
    ≡ cond (b && test d) (d ∷ filter (λ x. names v x && test x) demands) (filter (λ x. names v x && test x) demands)) [
      | true ↦
          ap (λ x. demands_at all (cond (test x) (length before ∷ filter (λ k. test (demand_at all k)) (places_on v (watchers_from (suc (length before)) demands)))
          (filter (λ k. test (demand_at all k)) (places_on v (watchers_from (suc (length before)) demands))))) here
          ∙ elim (test d) as (λ b.
          demands_at all (cond b (length before ∷ filter (λ k. test (demand_at all k)) (places_on v (watchers_from (suc (length before)) demands)))
          (filter (λ k. test (demand_at all k)) (places_on v (watchers_from (suc (length before)) demands))))
          ≡ cond b (d ∷ filter (λ x. names v x && test x) demands) (filter (λ x. names v x && test x) demands)) [
            | true ↦ ap (λ x. x ∷ demands_at all (filter (λ k. test (demand_at all k)) (places_on v (watchers_from (suc (length before)) demands)))) here ∙ ap (λ l. d ∷ l) more
            | false ↦ more
          ]
      | false ↦ more
    ]

-- the demand at one of the places
pub demands-get : (listed : List Demand) (places : List ℕ) (k d : ℕ) → k < length places → slice_get (demands_at listed places) k ≡ Some (demand_at listed (get_or places k d))
demands-get listed places k d h = slice_get-map (demand_at listed) places k ∙ ap (option_map (demand_at listed)) (slice_get-get_or places k d h)
