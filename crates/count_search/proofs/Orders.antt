-- The order of ranks, and the members of a set in that order.
use Rattle.std.proofs.Common.{◌≡◌, ℕ, ◌<◌, Bool, true, false, cond, ◌||◌, List, [], ◌∷◌, Some, None, refl, sym, ap, ◌∙◌, subst, inl, inr, ◌⊎◌, nat_lt, ltb-true, rules, ◌==◌, find}
use Rattle.std.specs.List.{list_any, AllByRecursion}
use Rattle.std.specs.List.Sorted.{IsStrictlySortedBy}
use Rattle.std.specs.Ordering.{nat_cmp, ordering_then, ordering_reverse, is_eq, is_lt}
use Rattle.std.specs.Prelude.{option_to_list, Option}
use Rattle.std.specs.Cmp.{IsTotalOrder}
use Rattle.std.specs.declared.cmp.Ordering.{Ordering}
use Rattle.std.specs.declared.cmp.Ordering.TheVariants.{Less, Equal, Greater}
use Rattle.std.proofs.lemmas.Bool.{false≢true, or_left, or_right}
use Rattle.std.proofs.lemmas.Cmp.{nat_cmp_total, on_total, then_total, tied_itself}
use Rattle.std.proofs.lemmas.Map.Lookups.{exact_unsigned}
use Rattle.qualified_goals.specs.declared.variable.Var.{Var}
use Rattle.qualified_goals.specs.Variable.{var_cmp}
use Rattle.qualified_goals.proofs.GoalOrder.{var_cmp_total}
use Rattle.qualified_goals.specs.SameVariable.{same_var-is, same_var-refl}
use Rattle.common_laws.specs.Small.{is-equal, is-less, second-equal}
use Rattle.count_search.specs.declared.ranks.Rank.{Rank}
use Rattle.count_search.specs.Ranks.{rank_cmp, same_rank, has_rank, lesser, passing, IsFirst, IsFirstRank}
use Rattle.count_search.specs.contracts.ranks.RankOrd.TheImpl.{cmp-value}

-- two tests that imply each other are equal
pub both-ways : (a b : Bool) → (a ≡ true → b ≡ true) → (b ≡ true → a ≡ true) → a ≡ b
both-ways true b h k = sym (h refl)
both-ways false true h k = k refl
both-ways false false h k = refl

pub either : (a b : Bool) → a || b ≡ true → (a ≡ true) ⊎ (b ≡ true)
either true b h = inl refl
either false b h = inr h

pub derived : (r q : Rank) → cmp-value.it r q ≡ rank_cmp r q
derived r q = search rules

-- the members by the derived order
abbrev pub found_in : List Rank → Rank → Bool
found_in ranks r = list_any (λ q. is_eq (cmp-value.it r q)) ranks

pub stored : (ranks : List Rank) (r : Rank) → found_in ranks r ≡ has_rank ranks r
stored [] r = refl
stored (q ∷ ranks) r = ap (λ o. is_eq o || list_any (λ x. is_eq (cmp-value.it r x)) ranks) (derived r q) ∙ ap (λ b. same_rank r q || b) (stored ranks r)

-- ranks that compare as equal are equal

then-first : (a b : Ordering) → ordering_then a b ≡ Equal → a ≡ Equal
then-first Less b h = h
then-first Equal b h = refl
then-first Greater b h = h

pub same-rank-is : (r q : Rank) → same_rank r q ≡ true → r ≡ q
same-rank-is r q h =
    let e = is-equal (rank_cmp r q) h in
    let rest = exact_unsigned r.rest q.rest (then-first (nat_cmp r.rest q.rest) (var_cmp r.var q.var) e) in
    let same = same_var-is r.var q.var (ap is_eq (second-equal (nat_cmp r.rest q.rest) (var_cmp r.var q.var) e)) in
    ap (λ n. record { rest = n; var = r.var }) rest ∙ ap (λ v. record { rest = q.rest; var = v }) same

pub same-rank-refl : (r : Rank) → same_rank r r ≡ true
same-rank-refl r = ap (λ o. is_eq (ordering_then o (var_cmp r.var r.var))) (tied_itself nat_cmp_total r.rest) ∙ same_var-refl r.var

-- the lesser of two ranks has the greater score, or the same score and the lesser variable

less-is : (m n : ℕ) → nat_cmp m n ≡ Less → m < n
less-is m n h =
    elim (nat_lt m n) as (λ b. nat_lt m n ≡ b → cond b Less (cond (m == n) Equal Greater) ≡ Less → m < n) [
      | true ↦ λ e k. ltb-true m n e
      | false ↦ λ e k. elim (m == n) as (λ b. cond b Equal Greater ≡ Less → m < n) [ true ↦ λ l. absurd (cc l) | false ↦ λ l. absurd (cc l) ] k
    ] refl h

then-less : (a b : Ordering) → ordering_then a b ≡ Less → (a ≡ Less) ⊎ ((a ≡ Equal) × (b ≡ Less))
then-less Less b h = inl refl
then-less Equal b h = inr (refl, h)
then-less Greater b h = absurd (cc h)

pub rank-less : (r q : Rank) → rank_cmp r q ≡ Less → (r.rest < q.rest) ⊎ ((r.rest ≡ q.rest) × (is_lt (var_cmp r.var q.var) ≡ true))
rank-less r q h =
    elim (then-less (nat_cmp r.rest q.rest) (var_cmp r.var q.var) h) [
      | inl l ↦ inl (less-is r.rest q.rest l)
      | inr e ↦ inr (exact_unsigned r.rest q.rest e.0, ap is_lt e.1)
    ]

-- the first rank that passes a test

less-as : (r : Rank) (ranks : List Rank) → AllByRecursion (λ y. cmp-value.it r y ≡ Less) ranks → AllByRecursion (λ y. rank_cmp r y ≡ Less) ranks
less-as r [] h = h
less-as r (q ∷ ranks) h = (sym (derived r q) ∙ h.0, less-as r ranks h.1)

pub sorted-as : (ranks : List Rank) → IsStrictlySortedBy cmp-value.it ranks → IsStrictlySortedBy rank_cmp ranks
unfolding IsStrictlySortedBy
sorted-as [] h = h
sorted-as (r ∷ ranks) h = (less-as r ranks h.0, sorted-as ranks h.1)

less-than : (r : Rank) (ranks : List Rank) (q : Rank) → AllByRecursion (λ y. rank_cmp r y ≡ Less) ranks → has_rank ranks q ≡ true → rank_cmp r q ≡ Less
less-than r [] q h k = absurd (false≢true k)
less-than r (x ∷ ranks) q h k =
    elim (either (same_rank q x) (has_rank ranks q) k) [
      | inl same ↦ subst (λ y. rank_cmp r y ≡ Less) (sym (same-rank-is q x same)) h.0
      | inr later ↦ less-than r ranks q h.1 later
    ]

pub first-rank : (test : Var → Bool) (ranks : List Rank) (rank : Rank) → IsStrictlySortedBy rank_cmp ranks → find (λ r. test r.var) ranks ≡ Some rank → IsFirstRank test (has_rank ranks) rank
unfolding IsStrictlySortedBy
first-rank test [] rank sorted h = absurd (cc h)
first-rank test (r ∷ ranks) rank sorted h =
    elim (test r.var) as (λ b. test r.var ≡ b → cond b (Some r) (find (λ q. test q.var) ranks) ≡ Some rank → IsFirstRank test (has_rank (r ∷ ranks)) rank) [
      | true ↦ λ e k.
          let same : r ≡ rank = cc k in
          record {
            member = or_left (same_rank rank r) (has_rank ranks rank) (ap (same_rank rank) same ∙ same-rank-refl rank);
            passes = subst (λ (x : Rank). test x.var ≡ true) same e;
            first = λ q member pass. elim (either (same_rank q r) (has_rank ranks q) member) [
              | inl equal ↦ inl (sym same ∙ sym (same-rank-is q r equal))
              | inr later ↦ inr (subst (λ (x : Rank). rank_cmp x q ≡ Less) same (less-than r ranks q sorted.0 later))
            ];
          }
      | false ↦ λ e k.
          let more = first-rank test ranks rank sorted.1 k in
          record {
            member = or_right (same_rank rank r) (has_rank ranks rank) more.member;
            passes = more.passes;
            first = λ q member pass. elim (either (same_rank q r) (has_rank ranks q) member) [
              | inl equal ↦ absurd (false≢true (sym e ∙ ap (λ (x : Rank). test x.var) (sym (same-rank-is q r equal)) ∙ pass))
              | inr later ↦ more.first q later pass
            ];
          }
    ] refl h

pub none-first : (test : Var → Bool) (ranks : List Rank) → find (λ r. test r.var) ranks ≡ None → (q : Rank) → has_rank ranks q ≡ true → test q.var ≡ false
none-first test [] h q member = absurd (false≢true member)
none-first test (r ∷ ranks) h q member =
    elim (test r.var) as (λ b. test r.var ≡ b → cond b (Some r) (find (λ x. test x.var) ranks) ≡ None → test q.var ≡ false) [
      | true ↦ λ e k. absurd (cc k)
      | false ↦ λ e k. elim (either (same_rank q r) (has_rank ranks q) member) [
        | inl equal ↦ ap (λ (x : Rank). test x.var) (same-rank-is q r equal) ∙ e
        | inr later ↦ none-first test ranks k q later
      ]
    ] refl h

pub first-found : (test : Var → Bool) (ranks : List Rank) (o : Option Rank) → IsStrictlySortedBy rank_cmp ranks → o ≡ find (λ r. test r.var) ranks → IsFirst test (has_rank ranks) o
first-found test ranks None sorted h = none-first test ranks (sym h)
first-found test ranks (Some r) sorted h = first-rank test ranks r sorted (sym h)

-- one rank alone
pub first-passing : (test : Var → Bool) (held : Option Rank) → IsFirst test (has_rank (option_to_list held)) (passing test held)
first-passing test None = λ q member. absurd (false≢true member)
first-passing test (Some r) =
    elim (test r.var) as (λ b. test r.var ≡ b → IsFirst test (has_rank (r ∷ [])) (cond b (Some r) None)) [
      | true ↦ λ e. record {
        member = or_left (same_rank r r) false (same-rank-refl r);
        passes = e;
        first = λ q member pass. elim (either (same_rank q r) false member) [
          | inl equal ↦ inl (sym (same-rank-is q r equal))
          | inr none ↦ absurd (false≢true none)
        ];
      }
      | false ↦ λ e q member. elim (either (same_rank q r) false member) [
        | inl equal ↦ ap (λ (x : Rank). test x.var) (same-rank-is q r equal) ∙ e
        | inr none ↦ absurd (false≢true none)
      ]
    ] refl

-- the first of two sets is the lesser one of their first

rank_cmp_total : IsTotalOrder rank_cmp
rank_cmp_total = then_total (on_total (λ (r : Rank). r.rest) nat_cmp_total) (on_total (λ (r : Rank). r.var) var_cmp_total)

reverse-not : (o : Ordering) → is_lt (ordering_reverse o) ≡ false → (o ≡ Equal) ⊎ (o ≡ Less)
reverse-not Less h = inr refl
reverse-not Equal h = inl refl
reverse-not Greater h = absurd (false≢true (sym h))

not-before : (r q : Rank) → is_lt (rank_cmp q r) ≡ false → (r ≡ q) ⊎ (rank_cmp r q ≡ Less)
not-before r q h =
    elim (reverse-not (rank_cmp r q) (sym (ap is_lt (rank_cmp_total.antisymm q r)) ∙ h)) [
      | inl e ↦ inl (same-rank-is r q (ap is_eq e))
      | inr l ↦ inr l
    ]

at-most-trans : (x y z : Rank) → (x ≡ y) ⊎ (rank_cmp x y ≡ Less) → (y ≡ z) ⊎ (rank_cmp y z ≡ Less) → (x ≡ z) ⊎ (rank_cmp x z ≡ Less)
at-most-trans x y z (inl e) k = subst (λ (w : Rank). (w ≡ z) ⊎ (rank_cmp w z ≡ Less)) (sym e) k
at-most-trans x y z (inr l) (inl e) = inr (subst (λ (w : Rank). rank_cmp x w ≡ Less) e l)
at-most-trans x y z (inr l) (inr m) = inr (rank_cmp_total.trans x y z l m)

module _ (test : Var → Bool) (a b : Rank → Bool) where
  abbrev both : Rank → Bool
  both q = a q || b q

  of-first : (r : Rank) → IsFirstRank test a r → ((q : Rank) → b q ≡ true → test q.var ≡ true → (r ≡ q) ⊎ (rank_cmp r q ≡ Less)) → IsFirstRank test both r
  of-first r h rest = record {
    member = or_left (a r) (b r) h.member;
    passes = h.passes;
    first = λ q member pass. elim (either (a q) (b q) member) [ inl k ↦ h.first q k pass | inr k ↦ rest q k pass ];
  }

  of-second : (r : Rank) → IsFirstRank test b r → ((q : Rank) → a q ≡ true → test q.var ≡ true → (r ≡ q) ⊎ (rank_cmp r q ≡ Less)) → IsFirstRank test both r
  of-second r h rest = record {
    member = or_right (a r) (b r) h.member;
    passes = h.passes;
    first = λ q member pass. elim (either (a q) (b q) member) [ inl k ↦ rest q k pass | inr k ↦ h.first q k pass ];
  }

  pub first-lesser : (first second : Option Rank) → IsFirst test a first → IsFirst test b second → IsFirst test both (lesser first second)
  first-lesser None None h k = λ q member. elim (either (a q) (b q) member) [ inl l ↦ h q l | inr l ↦ k q l ]
  first-lesser None (Some q) h k = of-second q k (λ x member pass. absurd (false≢true (sym (h x member) ∙ pass)))
  first-lesser (Some r) None h k = of-first r h (λ x member pass. absurd (false≢true (sym (k x member) ∙ pass)))
  first-lesser (Some r) (Some q) h k =
      elim (is_lt (rank_cmp q r)) as (λ b. is_lt (rank_cmp q r) ≡ b → IsFirstRank test both (cond b q r)) [
        | true ↦ λ e. of-second q k (λ x member pass. at-most-trans q r x (inr (is-less (rank_cmp q r) e)) (h.first x member pass))
        | false ↦ λ e. of-first r h (λ x member pass. at-most-trans r q x (not-before r q e) (k.first x member pass))
      ] refl
