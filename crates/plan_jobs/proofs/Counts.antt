-- Counts in lists, and counts of needs that aren't completed.
use Rattle.std.proofs.Common.{◌≡◌, ◌<◌, ◌≤◌, ◌+◌, ◌-◌, ⊎_elim, ℕ, zero, suc, true, false, cond, List, [], ◌∷◌, ◌++◌, length, get_or, set, take, drop, refl, sym, subst, ap, ◌∙◌, arith}
use Rattle.std.specs.Prelude.{◌==◌, Contains}
use Rattle.std.proofs.lemmas.Bool.{cases_eq}
use Rattle.std.proofs.lemmas.Bool.Decides.{nat_tests}
use Rattle.std.proofs.lemmas.List.{get_or-set_same, get_or-set_other, take-append-drop}
use Rattle.std.proofs.lemmas.List.Sums.{sum_by-append, sum_by-cons, sum_by_more}
use Rattle.common_laws.specs.Lists.{contains-none, contains-cases, contains-head, contains-tail}
use Rattle.plan_jobs.specs.declared.job.JobState.{JobState}
use Rattle.plan_jobs.specs.Board.{IsUser, is_completed, open_needs, state_at, times}

pub same_place : (a b : ℕ) → a ≡ b → a == b ≡ true
same_place a b e = grind (arith, nat_tests)

pub other_place : (a b : ℕ) → (a ≡ b → ⊥) → a == b ≡ false
other_place a b n = grind (arith, nat_tests)

pub times_more_here : (users : List ℕ) (k user : ℕ) → k < length users → get_or users k 0 ≡ user → times user (take (k + 1) users) ≡ times user (take k users) + 1
times_more_here users k user lt e =
    sum_by_more (λ other. cond (other == user) 1 0) users k 0 lt ∙ ap (λ b. times user (take k users) + cond b 1 0) (same_place (get_or users k 0) user e)

pub times_more_other : (users : List ℕ) (k user : ℕ) → k < length users → (get_or users k 0 ≡ user → ⊥) → times user (take (k + 1) users) ≡ times user (take k users) + 0
times_more_other users k user lt n =
    sum_by_more (λ other. cond (other == user) 1 0) users k 0 lt ∙ ap (λ b. times user (take k users) + cond b 1 0) (other_place (get_or users k 0) user n)

pub times_front : (users : List ℕ) (k user : ℕ) → times user (take k users) ≤ times user users
times_front users k user =
    let e : times user (take k users ++ drop k users) ≡ times user (take k users) + times user (drop k users) = sum_by-append (λ other. cond (other == user) 1 0) (take k users) (drop k users) in
    let whole : take k users ++ drop k users ≡ users = take-append-drop k users in
    let f : times user users ≡ times user (take k users) + times user (drop k users) = subst (λ l. times user l ≡ times user (take k users) + times user (drop k users)) whole e in
    omega (arith, f)

times_first : (u : ℕ) (users : List ℕ) (user : ℕ) → times user (u ∷ users) ≡ cond (u == user) 1 0 + times user users
times_first u users user = sum_by-cons (λ other. cond (other == user) 1 0) u users

-- a member of a list is counted at least once
pub times_some : (users : List ℕ) (user : ℕ) → Contains users user → 1 ≤ times user users
times_some [] user c = absurd (contains-none user c)
times_some (u ∷ users) user c = ⊎_elim
    (λ e. subst (λ n. 1 ≤ n) (sym (times_first u users user)) (subst (λ b. 1 ≤ cond b 1 0 + times user users) (sym (same_place u user e)) (omega arith)))
    (λ r. let k = times_some users user r in let f = times_first u users user in omega (arith, k, f))
    (contains-cases u users user c)

pub times_none : (users : List ℕ) (user : ℕ) → (Contains users user → ⊥) → times user users ≡ 0
times_none [] user n = refl
times_none (u ∷ users) user n =
    let k = times_none users user (λ c. n (contains-tail u users user c)) in
    times_first u users user ∙ subst (λ b. cond b 1 0 + times user users ≡ 0) (sym (other_place u user (λ e. n (subst (λ w. Contains (u ∷ users) w) e (contains-head u users))))) (omega (arith, k))

-- a need that isn't completed is counted each time it is listed
pub open_at_least : (users : List (List ℕ)) (states : List JobState) (place user : ℕ) → length users ≡ length states → is_completed (state_at states place) ≡ false
    → times user (get_or users place []) ≤ open_needs users states user
open_at_least [] states place user same not_yet = omega arith
open_at_least (list ∷ users) [] place user same not_yet = absurd (omega (arith, same))
open_at_least (list ∷ users) (s ∷ states) zero user same not_yet =
    subst (λ b. times user list ≤ cond b 0 (times user list) + open_needs users states user) (sym not_yet) (omega arith)
open_at_least (list ∷ users) (s ∷ states) (suc place) user same not_yet =
    let k = open_at_least users states place user (omega (arith, same)) not_yet in omega (arith, k)

-- if no need of a node is counted, all are completed
pub none_open : (users : List (List ℕ)) (states : List JobState) (place user : ℕ) → length users ≡ length states → open_needs users states user ≡ 0 → IsUser users user place
    → is_completed (state_at states place) ≡ true
none_open users states place user same count is =
    elim (is_completed (state_at states place)) as (λ b. is_completed (state_at states place) ≡ b → b ≡ true) [
      | true ↦ λ e. refl
      | false ↦ λ e.
          let some = times_some (get_or users place []) user is in
          let least = open_at_least users states place user same e in
          absurd (omega (arith, some, least, count))
    ] refl

pub some_open : (users : List (List ℕ)) (states : List JobState) (user : ℕ) → ((place : ℕ) → IsUser users user place → is_completed (state_at states place) ≡ true) → open_needs users states user ≡ 0
some_open [] states user all = refl
some_open (list ∷ users) [] user all = refl
some_open (list ∷ users) (s ∷ states) user all =
    let rest = some_open users states user (λ place i. all (suc place) i) in
    elim (is_completed s) as (λ b. is_completed s ≡ b → cond b 0 (times user list) + open_needs users states user ≡ 0) [
      | true ↦ λ e. omega (arith, rest)
      | false ↦ λ e. let absent = times_none list user (λ c. let wrong : false ≡ true = sym e ∙ all 0 c in cc) in omega (arith, rest, absent)
    ] refl

-- a node gets another state, and isn't completed before or after
pub open_same : (users : List (List ℕ)) (states : List JobState) (place user : ℕ) (state : JobState) → is_completed (state_at states place) ≡ false → is_completed state ≡ false
    → open_needs users (set states place state) user ≡ open_needs users states user
open_same [] states place user state was is = refl
open_same (list ∷ users) [] place user state was is = refl
open_same (list ∷ users) (s ∷ states) zero user state was is = ap (λ b. cond b 0 (times user list) + open_needs users states user) (is ∙ sym was)
open_same (list ∷ users) (s ∷ states) (suc place) user state was is = ap (λ n. cond (is_completed s) 0 (times user list) + n) (open_same users states place user state was is)

-- a node becomes completed
pub open_less : (users : List (List ℕ)) (states : List JobState) (place user : ℕ) (state : JobState) → place < length states → is_completed (state_at states place) ≡ false → is_completed state ≡ true
    → open_needs users (set states place state) user + times user (get_or users place []) ≡ open_needs users states user
open_less [] states place user state lt was is = refl
open_less (list ∷ users) [] place user state lt was is = absurd (omega (arith, lt))
open_less (list ∷ users) (s ∷ states) zero user state lt was is =
    subst (λ b. cond b 0 (times user list) + open_needs users states user + times user list ≡ cond (is_completed s) 0 (times user list) + open_needs users states user) (sym is)
    (subst (λ b. 0 + open_needs users states user + times user list ≡ cond b 0 (times user list) + open_needs users states user) (sym was) (omega arith))
open_less (list ∷ users) (s ∷ states) (suc place) user state lt was is =
    let k = open_less users states place user state (omega (arith, lt)) was is in omega (arith, k)

-- a user later in the list still has a need that isn't completed
pub still_open : (users unmet old : List ℕ) (k : ℕ) → k < length users → times (get_or users k 0) users ≤ get_or old (get_or users k 0) 0
    → get_or unmet (get_or users k 0) 0 + times (get_or users k 0) (take k users) ≡ get_or old (get_or users k 0) 0 → 0 < get_or unmet (get_or users k 0) 0
still_open users unmet old k lt needed less =
    let front = times_front users (k + 1) (get_or users k 0) in
    let here = times_more_here users k (get_or users k 0) lt refl in
    omega (arith, less, needed, front, here)

-- one need of a user fewer
pub less_by_one : (users unmet old : List ℕ) (k : ℕ) → k < length users → get_or users k 0 < length unmet → 0 < get_or unmet (get_or users k 0) 0
    → ((user : ℕ) → get_or unmet user 0 + times user (take k users) ≡ get_or old user 0)
    → (user : ℕ) → get_or (set unmet (get_or users k 0) (get_or unmet (get_or users k 0) 0 - 1)) user 0 + times user (take (k + 1) users) ≡ get_or old user 0
less_by_one users unmet old k lt within least less user = ⊎_elim
    (λ e.
    let here = times_more_here users k user lt e in
    let at : get_or (set unmet (get_or users k 0) (get_or unmet (get_or users k 0) 0 - 1)) user 0 ≡ get_or unmet user 0 - 1 =
    subst (λ w. get_or (set unmet w (get_or unmet w 0 - 1)) user 0 ≡ get_or unmet user 0 - 1) (sym e)
    (get_or-set_same unmet user (get_or unmet user 0 - 1) 0 (subst (λ w. w < length unmet) e within)) in
    let some : 0 < get_or unmet user 0 = subst (λ w. 0 < get_or unmet w 0) e least in
    let was = less user in
    omega (arith, here, at, some, was))
    (λ n.
    let there = times_more_other users k user lt n in
    let at = get_or-set_other unmet (get_or users k 0) user (get_or unmet (get_or users k 0) 0 - 1) 0 (λ e. n (sym e)) in
    let was = less user in
    omega (arith, there, at, was))
    (cases_eq (get_or users k 0) user)
