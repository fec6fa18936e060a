-- From the lists of a left side to those of the whole.
use Rattle.std.proofs.Common.{◌≡◌, ℕ, ◌<◌, ◌^◌, ◌-◌, min, length, Bool, true, false, ◌&&◌, ◌||◌, nat_lt, List, [], ◌∷◌, ◌++◌, refl, sym, ap, ◌∙◌, subst, arith, Bor, Some}
use Rattle.std.specs.List.{All}
use Rattle.std.proofs.lemmas.List.Elements.{All-push, All-pop}
use Rattle.plan_types.specs.declared.condition.Cond.{Cond}
use Rattle.plan_types.specs.declared.condition.Cond.TheVariants.{Not, And, Or}
use Rattle.plan_types.specs.declared.condition.Env.{Env}
use Rattle.conditionals.specs.declared.path.BothPaths.{BothPaths}
use Rattle.conditionals.specs.declared.path.WantedPaths.{WantedPaths}
use Rattle.conditionals.specs.declared.path.PathStep.{PathStep}
use Rattle.conditionals.specs.declared.path.PathStep.TheVariants as step
use Rattle.conditionals.specs.Paths.{Path, followed, paths_of}
use Rattle.conditionals.specs.Steps.{needed, lists_of, join_and, join_or, step_up, finish, IsSmaller, left_of_and, left_of_or, asked}
use Rattle.conditionals.proofs.ConditionLayers.{paths_Not, paths_And, paths_Or}

finish_push : (env : Env) (steps : List PathStep) (step : PathStep) (lists : BothPaths) → finish env (steps ++ step ∷ []) lists ≡ finish env steps (step_up env step lists)
finish_push env [] step lists = refl
finish_push env (s ∷ steps) step lists = ap (step_up env s) (finish_push env steps step lists)

-- the invariant holds after a step is pushed
pub put_aside : (env : Env) (steps new : List PathStep) (step : PathStep) (left part whole : BothPaths) → new ≡ steps ++ step ∷ [] → left ≡ step_up env step part → finish env steps left ≡ whole → finish env new part ≡ whole
put_aside env steps new step left part whole n is h = ap (λ s. finish env s part) n ∙ finish_push env steps step part ∙ ap (finish env steps) (sym is) ∙ h

-- the invariant holds after the last step is popped and done
pub taken_up : (env : Env) (steps left : List PathStep) (seen step : PathStep) (part new whole : BothPaths) → steps ≡ left ++ seen ∷ [] → seen ≡ step → new ≡ step_up env step part → finish env steps part ≡ whole → finish env left new ≡ whole
taken_up env steps left seen step part new whole e s n h = ap (finish env left) (n ∙ ap (λ t. step_up env t part) (sym s)) ∙ sym (finish_push env left seen part) ∙ ap (λ l. finish env l part) (sym e) ∙ h

pub smaller_push : (cond : Cond) (steps new : List PathStep) (step : PathStep) → new ≡ steps ++ step ∷ [] → IsSmaller cond step → All (IsSmaller cond) steps → All (IsSmaller cond) new
smaller_push cond steps new step e s all = subst (All (IsSmaller cond)) (sym e) (All-push (IsSmaller cond) steps step all s)

followed-nil : (first : List Path) → followed first [] ≡ []
followed-nil [] = refl
followed-nil (path ∷ first) = followed-nil first

-- a list that is joined with a non-empty one is needed
followed_needed : (is_needed some : Bool) (first second : List Path) → (some ≡ false → second ≡ []) → (some ≡ true → is_needed ≡ true) → followed (needed is_needed first) second ≡ followed first second
followed_needed true some first second none is = refl
followed_needed false true first second none is = absurd (cc (is refl))
followed_needed false false first second none is = sym (ap (followed first) (none refl) ∙ followed-nil first)

-- a list of paths with the number 0 is empty
pub no_paths : (n : ℕ) (paths : List Path) → n ≡ min (length paths) (2 ^ 64 - 1) → nat_lt 0 n ≡ false → paths ≡ []
no_paths n [] e h = refl
no_paths n (path ∷ paths) e h = absurd (by n (omega (arith, e)) h)
  where
    by : (m : ℕ) → 0 < m → nat_lt 0 m ≡ false → ⊥
    by m lt none = grind (arith, lt, none)

needed_same : (b : Bool) (x y : List Path) → (b ≡ true → x ≡ y) → needed b x ≡ needed b y
needed_same true x y h = h refl
needed_same false x y h = refl

needed_true : (b : Bool) (x : List Path) → b ≡ true → x ≡ needed b x
needed_true true x e = refl
needed_true false x e = absurd (cc e)

first_chosen : (b some other : Bool) → b ≡ true → some ≡ true → ((b && some) || other) ≡ true
first_chosen b some other e f = (λ i. (e i && f i) || other)

last_chosen : (other b some : Bool) → b ≡ true → some ≡ true → (other || (b && some)) ≡ true
last_chosen true b some e f = refl
last_chosen false b some e f = (λ i. e i && f i)

needed_twice : (b : Bool) (before first second : List Path) → needed b (before ++ followed first (needed b second)) ≡ needed b (before ++ followed first second)
needed_twice true before first second = refl
needed_twice false before first second = refl

asked_yes : (need : WantedPaths) (before first second : List Path) → needed need.yes (before ++ followed first (needed (asked need first).yes second)) ≡ needed need.yes (before ++ followed first second)
asked_yes need before [] second = refl
asked_yes need before (path ∷ first) second = needed_twice need.yes before (path ∷ first) second

asked_no : (need : WantedPaths) (before first second : List Path) → needed need.no (before ++ followed first (needed (asked need first).no second)) ≡ needed need.no (before ++ followed first second)
asked_no need before [] second = refl
asked_no need before (path ∷ first) second = needed_twice need.no before (path ∷ first) second

module _ (left-yes left-no right-yes right-no : List Path) (some-yes some-no : Bool) (none-yes : some-yes ≡ false → right-yes ≡ []) (none-no : some-no ≡ false → right-no ≡ []) where
  abbrev left : WantedPaths → BothPaths
  left need = record { yes = needed need.yes left-yes; no = needed need.no left-no }

  abbrev right : BothPaths
  right = record { yes = right-yes; no = right-no }

  abbrev whole_and : WantedPaths → BothPaths
  whole_and need = record { yes = needed need.yes (followed left-yes right-yes); no = needed need.no (left-no ++ followed left-yes right-no) }

  abbrev whole_or : WantedPaths → BothPaths
  whole_or need = record { yes = needed need.yes (left-yes ++ followed left-no right-yes); no = needed need.no (followed left-no right-no) }

  pub joins_and : (yes-needed no-needed : Bool) → let need : WantedPaths = record { yes = yes-needed; no = no-needed } in whole_and need ≡ join_and need (left (left_of_and need some-yes some-no)) right
  joins_and ys ns = λ i. record {
    yes = needed_same ys (followed left-yes right-yes) _ (λ y. sym (followed_needed _ some-yes left-yes right-yes none-yes (λ s. first_chosen ys some-yes (ns && some-no) y s))) i;
    no = needed_same ns (left-no ++ followed left-yes right-no) _ (λ n. (λ j. needed_true ns left-no n j ++ sym (followed_needed ((ys && some-yes) || (ns && some-no)) some-no left-yes right-no none-no (λ s. last_chosen (ys && some-yes) ns some-no n s)) j)) i;
  }

  pub joins_or : (yes-needed no-needed : Bool) → let need : WantedPaths = record { yes = yes-needed; no = no-needed } in whole_or need ≡ join_or need (left (left_of_or need some-yes some-no)) right
  joins_or ys ns = λ i. record {
    yes = needed_same ys (left-yes ++ followed left-no right-yes) _ (λ y. (λ j. needed_true ys left-yes y j ++ sym (followed_needed ((ys && some-yes) || (ns && some-no)) some-yes left-no right-yes none-yes (λ s. first_chosen ys some-yes (ns && some-no) y s)) j)) i;
    no = needed_same ns (followed left-no right-no) _ (λ n. sym (followed_needed _ some-no left-no right-no none-no (λ s. last_chosen (ys && some-yes) ns some-no n s))) i;
  }

-- the paths of the right side that aren't asked for aren't joined
pub asked_and : (need : WantedPaths) (left right : BothPaths) → join_and need left (record { yes = needed (asked need left.yes).yes right.yes; no = needed (asked need left.yes).no right.no }) ≡ join_and need left right
asked_and need left right = λ i. record { yes = asked_yes need [] left.yes right.yes i; no = asked_no need left.no left.yes right.no i }

pub asked_or : (need : WantedPaths) (left right : BothPaths) → join_or need left (record { yes = needed (asked need left.no).yes right.yes; no = needed (asked need left.no).no right.no }) ≡ join_or need left right
asked_or need left right = λ i. record { yes = asked_yes need left.yes left.no right.yes i; no = asked_no need [] left.no right.no i }

-- the needed lists of `!`, `&&` and `||`, from those of the left side
pub leads_not : (env : Env) (s inner : Cond) (need : WantedPaths) → s ≡ Not inner → lists_of env s need ≡ step_up env step.Not (lists_of env inner (record { yes = need.no; no = need.yes }))
leads_not env s inner need e = λ i. record { yes = needed need.yes (paths_Not env s inner e i true); no = needed need.no (paths_Not env s inner e i false) }

-- the numbers of the paths of a right side
abbrev pub AreCounts : Env → Cond → ℕ → ℕ → Type 0
AreCounts env right yes-number no-number = (yes-number ≡ min (length (paths_of env right true)) (2 ^ 64 - 1)) × (no-number ≡ min (length (paths_of env right false)) (2 ^ 64 - 1))

pub leads_and : (env : Env) (s l : Cond) (r : Bor Cond) (need : WantedPaths) (yes-number no-number : ℕ) → s ≡ And l r.now → AreCounts env r.now yes-number no-number
    → lists_of env s need ≡ step_up env (step.And r need) (lists_of env l (left_of_and need (nat_lt 0 yes-number) (nat_lt 0 no-number)))
leads_and env s l r need yes-number no-number e counts =
    (λ i. record { yes = needed need.yes (paths_And env s l r.now e i true); no = needed need.no (paths_And env s l r.now e i false) })
    ∙ joins_and (paths_of env l true) (paths_of env l false) (paths_of env r.now true) (paths_of env r.now false) (nat_lt 0 yes-number) (nat_lt 0 no-number) (no_paths yes-number _ counts.0) (no_paths no-number _ counts.1) need.yes need.no

pub leads_or : (env : Env) (s l : Cond) (r : Bor Cond) (need : WantedPaths) (yes-number no-number : ℕ) → s ≡ Or l r.now → AreCounts env r.now yes-number no-number
    → lists_of env s need ≡ step_up env (step.Or r need) (lists_of env l (left_of_or need (nat_lt 0 yes-number) (nat_lt 0 no-number)))
leads_or env s l r need yes-number no-number e counts =
    (λ i. record { yes = needed need.yes (paths_Or env s l r.now e i true); no = needed need.no (paths_Or env s l r.now e i false) })
    ∙ joins_or (paths_of env l true) (paths_of env l false) (paths_of env r.now true) (paths_of env r.now false) (nat_lt 0 yes-number) (nat_lt 0 no-number) (no_paths yes-number _ counts.0) (no_paths no-number _ counts.1) need.yes need.no

-- a pending operand is smaller than the whole
pub waits_below : (cond : Cond) (steps left : List PathStep) (seen step : PathStep) → steps ≡ left ++ seen ∷ [] → seen ≡ step → All (IsSmaller cond) steps → All (IsSmaller cond) left × IsSmaller cond step
waits_below cond steps left seen step e s all =
    let parts = All-pop (IsSmaller cond) steps left (Some seen) e all in
    (parts.0, subst (IsSmaller cond) s parts.1)
