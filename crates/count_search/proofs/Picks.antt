-- The variable picked is that of the first rank that is open, or the least open one where none is.
use Rattle.std.proofs.Common.{◌≡◌, ℕ, ◌<◌, ◌≤◌, true, false, cond, List, [], ◌∷◌, Some, None, refl, sym, ap, ◌∙◌, inl, inr, ◌⊎◌, arith, nat_lt, lt-ltb, ltb-true, ltb-false}
use Rattle.std.proofs.lemmas.Bool.{false≢true, or_left, or_right}
use Rattle.qualified_goals.specs.declared.variable.Var.{Var}
use Rattle.qualified_goals.specs.Variable.{same_var, is_before}
use Rattle.qualified_goals.specs.SameVariable.{same_var-refl}
use Rattle.qualified_goals.proofs.GoalOrder.{before-itself, before-back}
use Rattle.choice_problem.specs.declared.problem.Choice.{Choice}
use Rattle.choice_problem.specs.Problem.{Problem}
use Rattle.choice_problem.specs.General.{general}
use Rattle.choice_problem.specs.Active.{open_in, is_open}
use Rattle.choice_problem.specs.Trail.{demands_after, open_vars}
use Rattle.choice_problem.specs.ConflictSet.{has, is_rising, first_of}
use Rattle.choice_problem.specs.Guide.{score, better, most_met}
use Rattle.choice_problem.specs.Guides.{most-met-is-guide}
use Rattle.choice_problem.proofs.TrailLemmas.{open-unchosen, targets_open}
use Rattle.choice_problem.proofs.VariableSets.{has-contains, rising-tail, rising-below, rising-set_of}
use Rattle.count_search.specs.declared.ranks.Rank.{Rank}
use Rattle.count_search.specs.declared.records.Met.{Met}
use Rattle.count_search.specs.Ranks.{has_rank, rank_of, AreScored, IsFirstRank}
use Rattle.count_search.proofs.Orders.{either, rank-less}
use Rattle.count_search.proofs.Found.{one-or-other}
use Rattle.count_search.proofs.Scores.{member-ranked, ranked-member}

-- a variable has a lesser score than another one, or the same score and isn't before it
abbrev pub IsAtMost : List (List Var) → Var → Var → Type 0
IsAtMost met u v = (score met u < score met v) ⊎ ((score met u ≡ score met v) × (is_before u v ≡ false))

not-less : (m n : ℕ) → n ≤ m → nat_lt m n ≡ false
not-less m n h = elim (nat_lt m n) as (λ b. nat_lt m n ≡ b → b ≡ false) [ true ↦ λ e. absurd (omega (arith, h, ltb-true m n e)) | false ↦ λ e. refl ] refl

at-most-score : (met : List (List Var)) (u v : Var) → IsAtMost met u v → score met u ≤ score met v
at-most-score met u v (inl less) = omega (arith, less)
at-most-score met u v (inr same) = omega (arith, same.0)

pub most-is : (met : List (List Var)) (vars : List Var) (v : Var) → is_rising vars ≡ true → has vars v ≡ true → ((u : Var) → has vars u ≡ true → IsAtMost met u v) → most_met met vars ≡ Some v
most-is met [] v rising h most = absurd (false≢true h)
most-is met (w ∷ vars) v rising h most =
    elim (one-or-other w v) [
      | inl e ↦
          elim (most_met met vars) as (λ o. most_met met vars ≡ o → better met w o ≡ Some v) [
            | None ↦ λ k. ap Some e
            | Some x ↦ λ k.
                let there = most-met-is-guide.picked met vars x k in
                let less = at-most-score met x v (most x (or_right (same_var w x) (has vars x) there)) in
                ap (λ b. Some (cond b x w)) (not-less (score met w) (score met x) (omega (arith, less, ap (score met) e))) ∙ ap Some e
          ] refl
      | inr other ↦
          let there : has vars v ≡ true = elim (either (same_var w v) (has vars v) h) [ inl same ↦ absurd (false≢true (sym other ∙ same)) | inr k ↦ k ] in
          let rest = most-is met vars v (rising-tail w vars rising) there (λ u k. most u (or_right (same_var w u) (has vars u) k)) in
          let less : score met w < score met v = elim (most w (or_left (same_var w w) (has vars w) (same_var-refl w))) [
            | inl l ↦ l
            | inr same ↦ absurd (false≢true (sym same.1 ∙ rising-below w vars v rising (has-contains vars v there)))
          ] in
          ap (better met w) rest ∙ ap (λ b. Some (cond b v w)) (lt-ltb (score met w) (score met v) less)
    ]

pub most-none : (met : List (List Var)) (vars : List Var) → ((u : Var) → has vars u ≡ true → score met u ≡ 0) → most_met met vars ≡ first_of vars
most-none met [] none = refl
most-none met (w ∷ vars) none =
    elim (most_met met vars) as (λ o. most_met met vars ≡ o → better met w o ≡ Some w) [
      | None ↦ λ k. refl
      | Some x ↦ λ k.
          let zero = none x (or_right (same_var w x) (has vars x) (most-met-is-guide.picked met vars x k)) in
          ap (λ b. Some (cond b x w)) (not-less (score met w) (score met x) (omega (arith, zero)))
    ] refl

module _ (p : Problem) (met : List (List Var)) (trail : List Choice) (table : List (Var × Met)) (ranks : List Rank) (are : AreScored table ranks (score met) trail) where
  zero-of : (u : Var) → nat_lt 0 (score met u) ≡ false → score met u ≡ 0
  zero-of u e = omega (arith, ltb-false 0 (score met u) e)

  open-rising : is_rising (open_in p trail) ≡ true
  unfolding open_vars
  open-rising = rising-set_of (targets_open trail (demands_after (general p) trail))

  -- an open variable with a score above 0 has its rank
  open-ranked : (u : Var) → is_open p trail u ≡ true → 0 < score met u → has_rank ranks (rank_of (score met u) u) ≡ true
  open-ranked u opens more =
      ranked-member table ranks (score met) trail are (rank_of (score met u) u)
      (record { met = more; rest = refl; free = open-unchosen (general p) trail u opens })

  pub picked-ranked : (r : Rank) → IsFirstRank (is_open p trail) (has_rank ranks) r → most_met met (open_in p trail) ≡ Some r.var
  picked-ranked r first =
      let v = r.var in
      let ranked = member-ranked table ranks (score met) trail are r first.member in
      most-is met (open_in p trail) v open-rising first.passes
      (λ u opens. elim (nat_lt 0 (score met u)) as (λ b. nat_lt 0 (score met u) ≡ b → IsAtMost met u v) [
        | false ↦ λ e. inl (omega (arith, ranked.met, zero-of u e))
        | true ↦ λ e.
            let q = rank_of (score met u) u in
            elim (first.first q (open-ranked u opens (ltb-true 0 (score met u) e)) opens) [
              | inl same ↦
                  let one : v ≡ u = ap (λ (x : Rank). x.var) same in
                  inr (ap (score met) (sym one), ap (λ w. is_before u w) one ∙ before-itself u)
              | inr less ↦ elim (rank-less r q less) [
                | inl l ↦ inl (omega (arith, l, ranked.rest))
                | inr l ↦ inr (
                  omega (arith, l.0, ranked.rest),
                  before-back v u l.1,
                )
              ]
            ]
      ] refl)

  pub picked-least : ((q : Rank) → has_rank ranks q ≡ true → is_open p trail q.var ≡ false) → most_met met (open_in p trail) ≡ first_of (open_in p trail)
  picked-least none =
      most-none met (open_in p trail)
      (λ u opens. elim (nat_lt 0 (score met u)) as (λ b. nat_lt 0 (score met u) ≡ b → score met u ≡ 0) [
        | false ↦ λ e. zero-of u e
        | true ↦ λ e. absurd (false≢true (sym (none (rank_of (score met u) u) (open-ranked u opens (ltb-true 0 (score met u) e))) ∙ opens))
      ] refl)
