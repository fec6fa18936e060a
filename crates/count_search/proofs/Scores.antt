-- Scores, as ranks are added and removed.
use Rattle.std.proofs.Common.{◌≡◌, ℕ, ◌+◌, ◌-◌, ◌<◌, min, length, take, get_or, zero, suc, filter, Bool, true, false, cond, not, ◌||◌, ◌&&◌, List, [], ◌∷◌, ◌++◌, Option, Some, None, Result, Ok, Err, OnErr, is_none, is_some, refl, sym, ap, ◌∙◌, subst, inl, inr, ◌⊎◌, arith, nat_lt, nat_eq, lt-ltb, ltb-true, eq-eqb, eqb-true}
use Rattle.std.specs.Option.{option_map, unwrap_or}
use Rattle.std.specs.Result.{is_err}
use Rattle.std.proofs.Math.Seq.{take-suc}
use Rattle.std.proofs.lemmas.Bool.{false≢true, not-true, and_parts, and_from, or_left, or_right}
use Rattle.std.proofs.lemmas.List.Elements.{Contains-get_or}
use Rattle.qualified_goals.specs.declared.variable.Var.{Var}
use Rattle.qualified_goals.specs.Variable.{same_var}
use Rattle.qualified_goals.specs.SameVariable.{same_var-is, same_var-refl}
use Rattle.choice_problem.specs.declared.problem.Choice.{Choice}
use Rattle.choice_problem.specs.Trail.{value_in}
use Rattle.choice_problem.specs.ConflictSet.{has, is_rising}
use Rattle.choice_problem.specs.Guide.{cap, score}
use Rattle.choice_problem.proofs.TrailLemmas.{none-is, value_in-none, value_in-some}
use Rattle.choice_problem.proofs.ActiveDemands.{value_in-last}
use Rattle.choice_problem.proofs.VariableSets.{rising-tail, rising-below, has-contains, contains-has, before-not-same}
use Rattle.common_laws.specs.Lists.{contains-head, contains-right}
use Rattle.count_search.specs.declared.ranks.Rank.{Rank}
use Rattle.count_search.specs.declared.records.Met.{Met}
use Rattle.count_search.specs.Records.{record_in, with_one_more, without_sets}
use Rattle.count_search.specs.Ranks.{same_rank, has_rank, rank_of, is_ranked, met_by, AreNoted, AreScored, AreBetween, raised, raised_all}
use Rattle.count_search.proofs.Found.{one-or-other}
use Rattle.count_search.proofs.Orders.{both-ways, either, same-rank-is, same-rank-refl}

-- the rank of a variable with a score above 0 that isn't chosen
pub record Ranked (scores : Var → ℕ) (trail : List Choice) (r : Rank) : Type 0 where
  pub met : 0 < scores r.var
  pub rest : r.rest ≡ cap - scores r.var
  pub free : value_in trail r.var ≡ None

pub ranked-is : (scores : Var → ℕ) (trail : List Choice) (r : Rank) → is_ranked scores trail r ≡ true → Ranked scores trail r
ranked-is scores trail r h =
    let first = and_parts (nat_lt 0 (scores r.var)) (nat_eq r.rest (cap - scores r.var) && is_none (value_in trail r.var)) h in
    let second = and_parts (nat_eq r.rest (cap - scores r.var)) (is_none (value_in trail r.var)) first.1 in
    record { met = ltb-true 0 (scores r.var) first.0; rest = eqb-true r.rest (cap - scores r.var) second.0; free = none-is (value_in trail r.var) second.1 }

pub is-ranked : (scores : Var → ℕ) (trail : List Choice) (r : Rank) → Ranked scores trail r → is_ranked scores trail r ≡ true
is-ranked scores trail r ranked =
    and_from (nat_lt 0 (scores r.var)) (nat_eq r.rest (cap - scores r.var) && is_none (value_in trail r.var)) (lt-ltb 0 (scores r.var) ranked.met)
    (and_from (nat_eq r.rest (cap - scores r.var)) (is_none (value_in trail r.var)) (eq-eqb r.rest (cap - scores r.var) ranked.rest) (ap is_none ranked.free))

-- the rank that a variable has
pub its-rank : (scores : Var → ℕ) (trail : List Choice) (r : Rank) (v : Var) → Ranked scores trail r → r.var ≡ v → r ≡ rank_of (scores v) v
its-rank scores trail r v ranked e =
    ap (λ n. record { rest = n; var = r.var }) ranked.rest ∙ ap (λ w. record { rest = cap - scores w; var = w }) e

pub apart : (v w : Var) → same_var v w ≡ false → v ≡ w → ⊥
apart v w h e = false≢true (sym h ∙ ap (same_var v) (sym e) ∙ same_var-refl v)

-- records of which one is set

module _ (table later : List (Var × Met)) (v : Var) (m : Met) (set : (u : Var) → record_in later u ≡ cond (same_var v u) (Some m) (record_in table u)) where
  pub set-met : (u : Var) → met_by later u ≡ cond (same_var v u) m.sets (met_by table u)
  set-met u =
      ap (λ o. unwrap_or (option_map (λ (met : Met). met.sets) o) 0) (set u)
      ∙ elim (same_var v u) as (λ b. unwrap_or (option_map (λ (met : Met). met.sets) (cond b (Some m) (record_in table u))) 0 ≡ cond b m.sets (met_by table u)) [ true ↦ refl | false ↦ refl ]

  -- setting the number that the record has already changes nothing
  pub set-same : m.sets ≡ met_by table v → (u : Var) → met_by later u ≡ met_by table u
  set-same is u =
      set-met u ∙ elim (one-or-other v u) [
        | inl e ↦ ap (λ b. cond b m.sets (met_by table u)) (ap (same_var v) (sym e) ∙ same_var-refl v) ∙ is ∙ ap (met_by table) e
        | inr other ↦ ap (λ b. cond b m.sets (met_by table u)) other
      ]

  -- a variable without a record is another one, and had none
  pub set-none : (u : Var) → record_in later u ≡ None → (u ≡ v → ⊥) × (record_in table u ≡ None)
  set-none u h =
      elim (same_var v u) as (λ b. same_var v u ≡ b → cond b (Some m) (record_in table u) ≡ None → (u ≡ v → ⊥) × (record_in table u ≡ None)) [
        | true ↦ λ e k. absurd (cc k)
        | false ↦ λ e k. (λ same. apart v u e (sym same), k)
      ] refl (sym (set u) ∙ h)

  -- what is noted of other variables stays
  pub set-noted : (before after : List Choice) → AreNoted table before → m.chosen ≡ is_some (value_in after v)
      → ((u : Var) → (u ≡ v → ⊥) → is_some (value_in before u) ≡ is_some (value_in after u)) → AreNoted later after
  set-noted before after noted own others u met h =
      elim (one-or-other v u) [
        | inl e ↦
            let is : Some m ≡ Some met = sym (ap (λ b. cond b (Some m) (record_in table u)) (ap (same_var v) (sym e) ∙ same_var-refl v)) ∙ sym (set u) ∙ h in
            let same : m ≡ met = cc is in
            sym (ap (λ (x : Met). x.chosen) same) ∙ own ∙ ap (λ w. is_some (value_in after w)) e
        | inr other ↦
            noted u met (sym (ap (λ b. cond b (Some m) (record_in table u)) other) ∙ sym (set u) ∙ h) ∙ others u (λ e. apart v u other (sym e))
      ]

-- the score by a record
pub met-of : (table : List (Var × Met)) (v : Var) (o : Option Met) → record_in table v ≡ o → met_by table v ≡ unwrap_or (option_map (λ (met : Met). met.sets) o) 0
met-of table v o e = ap (λ o. unwrap_or (option_map (λ (met : Met). met.sets) o) 0) e

-- one more choice

still-free : (trail : List Choice) (c : Choice) (w : Var) → value_in trail w ≡ None → (c.var ≡ w → ⊥) → value_in (trail ++ c ∷ []) w ≡ None
still-free trail c w free other =
    elim (value_in (trail ++ c ∷ []) w) as (λ o. value_in (trail ++ c ∷ []) w ≡ o → o ≡ None) [
      | None ↦ λ k. refl
      | Some n ↦ λ k. elim (value_in-last trail c w n k) [ inl l ↦ absurd (cc (sym free ∙ l)) | inr l ↦ absurd (other l.0) ]
    ] refl

taken : (trail : List Choice) (c : Choice) (w : Var) → c.var ≡ w → value_in (trail ++ c ∷ []) w ≡ None → ⊥
taken trail c w k free =
    false≢true (sym (ap is_some free) ∙ ap (λ u. is_some (value_in (trail ++ c ∷ []) u)) (sym k)
    ∙ value_in-some (trail ++ c ∷ []) c (contains-right trail (c ∷ []) c (contains-head c [])))

taken-some : (trail : List Choice) (c : Choice) (w : Var) → c.var ≡ w → is_some (value_in (trail ++ c ∷ []) w) ≡ true
taken-some trail c w k =
    ap (λ u. is_some (value_in (trail ++ c ∷ []) u)) (sym k)
    ∙ value_in-some (trail ++ c ∷ []) c (contains-right trail (c ∷ []) c (contains-head c []))

pub is-free : (trail : List Choice) (v : Var) → is_some (value_in trail v) ≡ false → value_in trail v ≡ None
is-free trail v h = elim (value_in trail v) as (λ o. is_some o ≡ false → o ≡ None) [ None ↦ λ k. refl | Some n ↦ λ k. absurd (false≢true (sym k)) ] h

-- one more choice leaves other variables chosen or not
still-noted : (trail : List Choice) (c : Choice) (w : Var) → (c.var ≡ w → ⊥) → is_some (value_in trail w) ≡ is_some (value_in (trail ++ c ∷ []) w)
still-noted trail c w other =
    both-ways (is_some (value_in trail w)) (is_some (value_in (trail ++ c ∷ []) w))
    (λ h. elim (is_some (value_in (trail ++ c ∷ []) w)) as (λ b. is_some (value_in (trail ++ c ∷ []) w) ≡ b → b ≡ true) [
      | true ↦ λ k. refl
      | false ↦ λ k. absurd (false≢true (sym (ap is_some (value_in-none trail (c ∷ []) w (is-free (trail ++ c ∷ []) w k))) ∙ h))
    ] refl)
    (λ h. elim (is_some (value_in trail w)) as (λ b. is_some (value_in trail w) ≡ b → b ≡ true) [
      | true ↦ λ k. refl
      | false ↦ λ k. absurd (false≢true (sym (ap is_some (still-free trail c w (is-free trail w k) other)) ∙ h))
    ] refl)

-- where a variable has no record, the records say the same after its choice as before
pub noted-after : (table : List (Var × Met)) (trail : List Choice) (c : Choice) → record_in table c.var ≡ None → AreNoted table trail → AreNoted table (trail ++ c ∷ [])
noted-after table trail c none noted u met h = noted u met h ∙ still-noted trail c u (λ e. cc (sym none ∙ ap (record_in table) e ∙ h))

pub noted-before : (table : List (Var × Met)) (trail : List Choice) (c : Choice) → record_in table c.var ≡ None → AreNoted table (trail ++ c ∷ []) → AreNoted table trail
noted-before table trail c none noted u met h = noted u met h ∙ sym (still-noted trail c u (λ e. cc (sym none ∙ ap (record_in table) e ∙ h)))

-- the record that a variable has, or gets
module _ (table : List (Var × Met)) (v : Var) where
  pub record-sets : (chosen : Bool) (met : Met) → met ≡ unwrap_or (record_in table v) (without_sets chosen) → met.sets ≡ met_by table v
  record-sets chosen met e =
      ap (λ (m : Met). m.sets) e
      ∙ elim (record_in table v) as (λ o. (unwrap_or o (without_sets chosen)).sets ≡ unwrap_or (option_map (λ (m : Met). m.sets) o) 0) [ None ↦ refl | Some m ↦ refl ]

  pub record-chosen : (trail : List Choice) (met : Met) → AreNoted table trail → met ≡ unwrap_or (record_in table v) (without_sets (is_some (value_in trail v)))
      → met.chosen ≡ is_some (value_in trail v)
  record-chosen trail met noted e =
      ap (λ (m : Met). m.chosen) e
      ∙ elim (record_in table v) as (λ o. record_in table v ≡ o → (unwrap_or o (without_sets (is_some (value_in trail v)))).chosen ≡ is_some (value_in trail v)) [
        | None ↦ λ k. refl
        | Some m ↦ λ k. noted v m k
      ] refl

-- a variable with one more in its score

module _ (v : Var) (scores : Var → ℕ) where
  pub raised-at : raised v scores v ≡ min (scores v + 1) cap
  raised-at = ap (λ b. cond b (min (scores v + 1) cap) (scores v)) (same_var-refl v)

  pub raised-positive : 0 < raised v scores v
  raised-positive = subst (λ n. 0 < n) (sym raised-at) (omega arith)

  pub raised-off : (u : Var) → (u ≡ v → ⊥) → raised v scores u ≡ scores u
  raised-off u other =
      elim (same_var v u) as (λ b. same_var v u ≡ b → cond b (min (scores u + 1) cap) (scores u) ≡ scores u) [
        | true ↦ λ e. absurd (other (sym (same_var-is v u e)))
        | false ↦ λ e. refl
      ] refl

  pub raised-below : scores v < cap → raised v scores v ≡ scores v + 1
  raised-below less = raised-at ∙ omega (arith, less)

  pub raised-full : scores v ≡ cap → (u : Var) → raised v scores u ≡ scores u
  raised-full full u = elim (one-or-other v u) [
    | inl e ↦ ap (raised v scores) (sym e) ∙ raised-at ∙ omega (arith, full) ∙ ap scores e
    | inr other ↦ raised-off u (λ e. apart v u other (sym e))
  ]

-- scores that are equal at the variable of a rank
pub alike : (f g : Var → ℕ) (trail : List Choice) (r : Rank) → g r.var ≡ f r.var → Ranked f trail r → Ranked g trail r
alike f g trail r e ranked = record {
  met = subst (λ n. 0 < n) (sym e) ranked.met;
  rest = ranked.rest ∙ ap (λ n. cap - n) (sym e);
  free = ranked.free;
}

-- a rank added or removed

other-rank : (n : ℕ) (v : Var) (r : Rank) → (r.var ≡ v → ⊥) → same_rank (rank_of n v) r ≡ false
other-rank n v r other =
    elim (same_rank (rank_of n v) r) as (λ b. same_rank (rank_of n v) r ≡ b → b ≡ false) [
      | true ↦ λ e. absurd (other (ap (λ (x : Rank). x.var) (sym (same-rank-is (rank_of n v) r e))))
      | false ↦ λ e. refl
    ] refl

-- different scores of one variable have different ranks
other-score : (n : ℕ) (v : Var) (f : Var → ℕ) (trail : List Choice) (r : Rank) → Ranked f trail r → (cap - n ≡ cap - f v → ⊥) → same_rank (rank_of n v) r ≡ false
other-score n v f trail r ranked differ =
    elim (same_rank (rank_of n v) r) as (λ b. same_rank (rank_of n v) r ≡ b → b ≡ false) [
      | true ↦ λ e.
          let is = same-rank-is (rank_of n v) r e in
          absurd (differ (ap (λ (x : Rank). x.rest) is ∙ ranked.rest ∙ ap (λ (x : Rank). cap - f x.var) (sym is)))
      | false ↦ λ e. refl
    ] refl

stays : (a b : Bool) → a ≡ false → b ≡ true → not a && b ≡ true
stays a b e h = ap (λ x. not x && b) e ∙ h

module _ (table : List (Var × Met)) (ranks : List Rank) (scores : Var → ℕ) (trail : List Choice) (are : AreScored table ranks scores trail) where
  pub member-ranked : (r : Rank) → has_rank ranks r ≡ true → Ranked scores trail r
  member-ranked r h = ranked-is scores trail r (sym (are.ranked r) ∙ h)

  pub ranked-member : (r : Rank) → Ranked scores trail r → has_rank ranks r ≡ true
  ranked-member r h = are.ranked r ∙ is-ranked scores trail r h

  -- the rank of one variable is removed, as it is chosen
  module _ (v : Var) (new : List Rank) (dropped : (r : Rank) → has_rank new r ≡ not (same_rank (rank_of (scores v) v) r) && has_rank ranks r) where
    left-is : (r : Rank) → has_rank new r ≡ true → Ranked scores trail r × (r.var ≡ v → ⊥)
    left-is r h =
        let parts = and_parts (not (same_rank (rank_of (scores v) v) r)) (has_rank ranks r) (sym (dropped r) ∙ h) in
        let ranked = member-ranked r parts.1 in (
          ranked,
          λ e.
              let same : same_rank (rank_of (scores v) v) r ≡ true = ap (same_rank (rank_of (scores v) v)) (its-rank scores trail r v ranked e) ∙ same-rank-refl (rank_of (scores v) v) in
              false≢true (sym (not-true (same_rank (rank_of (scores v) v) r) parts.0) ∙ same),
        )

    is-left : (r : Rank) → Ranked scores trail r → (r.var ≡ v → ⊥) → has_rank new r ≡ true
    is-left r ranked other = dropped r ∙ stays (same_rank (rank_of (scores v) v) r) (has_rank ranks r) (other-rank (scores v) v r other) (ranked-member r ranked)

    pub scored-chosen : (c : Choice) → c.var ≡ v → (later : List (Var × Met)) (m : Met) → m.sets ≡ met_by table v → m.chosen ≡ true
        → ((u : Var) → record_in later u ≡ cond (same_var v u) (Some m) (record_in table u)) → AreScored later new scores (trail ++ c ∷ [])
    scored-chosen c e later m sets-is chosen set = record {
      counted = λ u. set-same table later v m set sets-is u ∙ are.counted u;
      noted = set-noted table later v m set trail (trail ++ c ∷ []) are.noted (chosen ∙ sym (taken-some trail c v e))
          (λ u off. still-noted trail c u (λ k. off (sym k ∙ e)));
      ranked = λ r. both-ways (has_rank new r) (is_ranked scores (trail ++ c ∷ []) r)
          (λ h.
          let left = left-is r h in
          is-ranked scores (trail ++ c ∷ []) r (record { met = left.0.met; rest = left.0.rest; free = still-free trail c r.var left.0.free (λ k. left.1 (sym k ∙ e)) }))
          (λ h.
          let ranked = ranked-is scores (trail ++ c ∷ []) r h in
          is-left r (record { met = ranked.met; rest = ranked.rest; free = value_in-none trail (c ∷ []) r.var ranked.free })
          (λ k. taken trail c r.var (e ∙ sym k) ranked.free));
    }

  -- a variable without a record is chosen
  pub scored-new : (c : Choice) → record_in table c.var ≡ None → (later : List (Var × Met)) → ((u : Var) → record_in later u ≡ record_in table u)
      → AreScored later ranks scores (trail ++ c ∷ [])
  scored-new c none later same =
      let zero : scores c.var ≡ 0 = sym (are.counted c.var) ∙ met-of table c.var None none in
      record {
        counted = λ u. ap (λ o. unwrap_or (option_map (λ (met : Met). met.sets) o) 0) (same u) ∙ are.counted u;
        noted = λ u met h. noted-after table trail c none are.noted u met (sym (same u) ∙ h);
        ranked = λ r. both-ways (has_rank ranks r) (is_ranked scores (trail ++ c ∷ []) r)
            (λ h.
            let ranked = member-ranked r h in
            is-ranked scores (trail ++ c ∷ []) r
            (record { met = ranked.met; rest = ranked.rest; free = still-free trail c r.var ranked.free (λ k. omega (arith, ranked.met, zero, ap scores k)) }))
            (λ h.
            let ranked = ranked-is scores (trail ++ c ∷ []) r h in
            ranked-member r (record { met = ranked.met; rest = ranked.rest; free = value_in-none trail (c ∷ []) r.var ranked.free }));
      }

-- between old scores and the next

-- a set with the ranks of both has those that pass either test
ranked-by-both : (ranks : List Rank) (scores next : Var → ℕ) (trail : List Choice) → ((r : Rank) → has_rank ranks r ≡ true → Ranked scores trail r ⊎ Ranked next trail r)
    → ((r : Rank) → Ranked scores trail r → has_rank ranks r ≡ true) → ((r : Rank) → Ranked next trail r → has_rank ranks r ≡ true)
    → (r : Rank) → has_rank ranks r ≡ is_ranked scores trail r || is_ranked next trail r
ranked-by-both ranks scores next trail to first second r =
    both-ways (has_rank ranks r) (is_ranked scores trail r || is_ranked next trail r)
    (λ h. elim (to r h) [
      | inl a ↦ or_left (is_ranked scores trail r) (is_ranked next trail r) (is-ranked scores trail r a)
      | inr b ↦ or_right (is_ranked scores trail r) (is_ranked next trail r) (is-ranked next trail r b)
    ])
    (λ h. elim (either (is_ranked scores trail r) (is_ranked next trail r) h) [
      | inl a ↦ first r (ranked-is scores trail r a)
      | inr b ↦ second r (ranked-is next trail r b)
    ])

-- where the next scores are the old ones, the ranks are those of the scores
pub between-none : (table : List (Var × Met)) (ranks : List Rank) (scores : Var → ℕ) (trail : List Choice) → AreScored table ranks scores trail → AreBetween table ranks scores scores trail
between-none table ranks scores trail are = record {
  counted = are.counted;
  noted = are.noted;
  ranked = λ r. are.ranked r ∙ elim (is_ranked scores trail r) as (λ b. b ≡ b || b) [ true ↦ refl | false ↦ refl ];
  ready = λ v none. refl;
}

pub none-between : (table : List (Var × Met)) (ranks : List Rank) (scores : Var → ℕ) (trail : List Choice) → AreBetween table ranks scores scores trail → AreScored table ranks scores trail
none-between table ranks scores trail are = record {
  counted = are.counted;
  noted = are.noted;
  ranked = λ r. are.ranked r ∙ elim (is_ranked scores trail r) as (λ b. b || b ≡ b) [ true ↦ refl | false ↦ refl ];
}

pub between-alike : (table : List (Var × Met)) (ranks : List Rank) (f g next after : Var → ℕ) (trail : List Choice) → ((u : Var) → g u ≡ f u) → ((u : Var) → after u ≡ next u)
    → AreBetween table ranks f next trail → AreBetween table ranks g after trail
between-alike table ranks f g next after trail same too are =
    let seen : Rank → ℕ → Bool = λ r n. nat_lt 0 n && (nat_eq r.rest (cap - n) && is_none (value_in trail r.var)) in
    record {
      counted = λ v. are.counted v ∙ sym (same v);
      noted = are.noted;
      ranked = λ r. are.ranked r ∙ ap (λ n. seen r n || is_ranked next trail r) (sym (same r.var)) ∙ ap (λ n. is_ranked g trail r || seen r n) (sym (too r.var));
      ready = λ v none. too v ∙ are.ready v none ∙ sym (same v);
    }

module _ (table : List (Var × Met)) (ranks : List Rank) (scores next : Var → ℕ) (trail : List Choice) (are : AreBetween table ranks scores next trail) where
  of-either : (r : Rank) → has_rank ranks r ≡ true → Ranked scores trail r ⊎ Ranked next trail r
  of-either r h = elim (either (is_ranked scores trail r) (is_ranked next trail r) (sym (are.ranked r) ∙ h)) [
    | inl a ↦ inl (ranked-is scores trail r a)
    | inr b ↦ inr (ranked-is next trail r b)
  ]

  of-first : (r : Rank) → Ranked scores trail r → has_rank ranks r ≡ true
  of-first r a = are.ranked r ∙ or_left (is_ranked scores trail r) (is_ranked next trail r) (is-ranked scores trail r a)

  of-next : (r : Rank) → Ranked next trail r → has_rank ranks r ≡ true
  of-next r b = are.ranked r ∙ or_right (is_ranked scores trail r) (is_ranked next trail r) (is-ranked next trail r b)

  -- a variable gets its record, and its next rank unless it is chosen

  module _ (v : Var) (m : Met) (n-is : m.sets ≡ met_by table v) (own : m.chosen ≡ is_some (value_in trail v))
      (later : List (Var × Met)) (set : (u : Var) → record_in later u ≡ cond (same_var v u) (Some m) (record_in table u)) where
    noted-still : AreNoted later trail
    noted-still = set-noted table later v m set trail trail are.noted own (λ u off. refl)

    pub entered : (last : List Rank) → last ≡ ranks → AreBetween later last scores next trail
    entered last is = record {
      counted = λ u. set-same table later v m set n-is u ∙ are.counted u;
      noted = noted-still;
      ranked = λ r. ap (λ l. has_rank l r) is ∙ are.ranked r;
      ready = λ u none. are.ready u (set-none table later v m set u none).1;
    }

    prepared : (last : List Rank) → ((r : Rank) → has_rank last r ≡ is_ranked scores trail r || is_ranked (raised v next) trail r) → AreBetween later last scores (raised v next) trail
    prepared last ranked = record {
      counted = λ u. set-same table later v m set n-is u ∙ are.counted u;
      noted = noted-still;
      ranked = ranked;
      ready = λ u none. let was = set-none table later v m set u none in raised-off v next u was.0 ∙ are.ready u was.1;
    }

    pub prepared-chosen : m.chosen ≡ true → AreBetween later ranks scores (raised v next) trail
    prepared-chosen chosen =
        let stands : value_in trail v ≡ None → ⊥ = λ none. false≢true (sym (ap is_some none) ∙ sym own ∙ chosen) in
        let off : (w : Var) → value_in trail w ≡ None → raised v next w ≡ next w = λ w free. raised-off v next w (λ e. stands (ap (value_in trail) (sym e) ∙ free)) in
        prepared ranks (ranked-by-both ranks scores (raised v next) trail
        (λ r h. elim (of-either r h) [ inl a ↦ inl a | inr b ↦ inr (alike next (raised v next) trail r (off r.var b.free) b) ])
        of-first
        (λ r b. of-next r (alike (raised v next) next trail r (sym (off r.var b.free)) b)))

    pub prepared-free : (last : List Rank) (s : ℕ) → m.chosen ≡ false → next v ≡ scores v → s ≡ min (m.sets + 1) cap
        → ((r : Rank) → has_rank last r ≡ same_rank (rank_of s v) r || has_rank ranks r) → AreBetween later last scores (raised v next) trail
    prepared-free last s unset same s-is put =
        let free = is-free trail v (sym own ∙ unset) in
        let its : s ≡ raised v next v = s-is ∙ ap (λ k. min (k + 1) cap) (n-is ∙ are.counted v ∙ sym same) ∙ sym (raised-at v next) in
        prepared last (ranked-by-both last scores (raised v next) trail
        (λ r h. elim (either (same_rank (rank_of s v) r) (has_rank ranks r) (sym (put r) ∙ h)) [
          | inl one ↦ inr (subst (Ranked (raised v next) trail) (same-rank-is (rank_of s v) r one)
              (record { met = raised-positive v next; rest = ap (λ k. cap - k) its; free = free }))
          | inr old ↦ elim (of-either r old) [
            | inl a ↦ inl a
            | inr b ↦ elim (one-or-other r.var v) [
              | inl e ↦ inl (alike next scores trail r (ap scores e ∙ sym same ∙ ap next (sym e)) b)
              | inr other ↦ inr (alike next (raised v next) trail r (raised-off v next r.var (apart r.var v other)) b)
            ]
          ]
        ])
        (λ r a. put r ∙ or_right (same_rank (rank_of s v) r) (has_rank ranks r) (of-first r a))
        (λ r b. elim (one-or-other r.var v) [
          | inl e ↦ put r ∙ or_left (same_rank (rank_of s v) r) (has_rank ranks r)
              (ap (same_rank (rank_of s v)) (its-rank (raised v next) trail r v b e ∙ ap (λ k. rank_of k v) (sym its)) ∙ same-rank-refl (rank_of s v))
          | inr other ↦ put r ∙ or_right (same_rank (rank_of s v) r) (has_rank ranks r)
              (of-next r (alike (raised v next) next trail r (sym (raised-off v next r.var (apart r.var v other))) b))
        ]))

  -- a variable gets its next score

  module _ (v : Var) (old : Met) (is : record_in table v ≡ Some old) (rises : next v ≡ raised v scores v) (later : List (Var × Met))
      (set : (u : Var) → record_in later u ≡ cond (same_var v u) (Some (with_one_more old)) (record_in table u)) where
    was : old.sets ≡ scores v
    was = sym (met-of table v (Some old) is) ∙ are.counted v

    more : (u : Var) → met_by later u ≡ raised v scores u
    more u =
        set-met table later v (with_one_more old) set u ∙ elim (one-or-other v u) [
          | inl e ↦ ap (λ b. cond b (min (old.sets + 1) cap) (met_by table u)) (ap (same_var v) (sym e) ∙ same_var-refl v)
              ∙ ap (λ k. min (k + 1) cap) was ∙ sym (raised-at v scores) ∙ ap (raised v scores) e
          | inr other ↦ ap (λ b. cond b (min (old.sets + 1) cap) (met_by table u)) other ∙ are.counted u ∙ sym (raised-off v scores u (λ e. apart v u other (sym e)))
        ]

    more-noted : AreNoted later trail
    more-noted = set-noted table later v (with_one_more old) set trail trail are.noted (are.noted v old is) (λ u off. refl)

    more-ready : (u : Var) → record_in later u ≡ None → next u ≡ raised v scores u
    more-ready u none = let before = set-none table later v (with_one_more old) set u none in are.ready u before.1 ∙ sym (raised-off v scores u before.0)

    -- the ranks stay, since the scores of variables that aren't chosen do
    pub raised-still : ((w : Var) → value_in trail w ≡ None → raised v scores w ≡ scores w) → AreBetween later ranks (raised v scores) next trail
    raised-still off = record {
      counted = more;
      noted = more-noted;
      ranked = ranked-by-both ranks (raised v scores) next trail
          (λ r h. elim (of-either r h) [ inl a ↦ inl (alike scores (raised v scores) trail r (off r.var a.free) a) | inr b ↦ inr b ])
          (λ r a. of-first r (alike (raised v scores) scores trail r (sym (off r.var a.free)) a))
          of-next;
      ready = more-ready;
    }

    pub raised-chosen : old.chosen ≡ true → AreBetween later ranks (raised v scores) next trail
    raised-chosen chosen =
        raised-still (λ w free. raised-off v scores w
        (λ e. false≢true (sym (ap is_some free) ∙ ap (λ u. is_some (value_in trail u)) e ∙ sym (are.noted v old is) ∙ chosen)))

    pub raised-at-cap : old.sets ≡ cap → AreBetween later ranks (raised v scores) next trail
    raised-at-cap full = raised-still (λ w free. raised-full v scores (sym was ∙ full) w)

    -- its old rank is removed
    pub raised-more : (last : List Rank) → old.sets < cap → ((r : Rank) → has_rank last r ≡ not (same_rank (rank_of old.sets v) r) && has_rank ranks r)
        → AreBetween later last (raised v scores) next trail
    raised-more last less dropped =
        let n = old.sets in
        let its : raised v scores v ≡ n + 1 = raised-below v scores (omega (arith, was, less)) ∙ ap (λ k. k + 1) (sym was) in
        let second : (r : Rank) → Ranked next trail r → has_rank last r ≡ true =
        λ r b. dropped r ∙ stays (same_rank (rank_of n v) r) (has_rank ranks r) (other-score n v next trail r b (λ e. omega (arith, e, rises, its, less))) (of-next r b) in
        record {
          counted = more;
          noted = more-noted;
          ranked = ranked-by-both last (raised v scores) next trail
              (λ r h.
              let parts = and_parts (not (same_rank (rank_of n v) r)) (has_rank ranks r) (sym (dropped r) ∙ h) in
              elim (of-either r parts.1) [
                | inl a ↦ elim (one-or-other r.var v) [
                  | inl e ↦
                      let same : same_rank (rank_of n v) r ≡ true =
                      ap (same_rank (rank_of n v)) (its-rank scores trail r v a e ∙ ap (λ k. rank_of k v) (sym was)) ∙ same-rank-refl (rank_of n v) in
                      absurd (false≢true (sym (not-true (same_rank (rank_of n v) r) parts.0) ∙ same))
                  | inr other ↦ inl (alike scores (raised v scores) trail r (raised-off v scores r.var (apart r.var v other)) a)
                ]
                | inr b ↦ inr b
              ])
              (λ r a. elim (one-or-other r.var v) [
                | inl e ↦ second r (alike (raised v scores) next trail r (ap next e ∙ rises ∙ ap (raised v scores) (sym e)) a)
                | inr other ↦
                    let off = apart r.var v other in
                    dropped r ∙ stays (same_rank (rank_of n v) r) (has_rank ranks r) (other-rank n v r off) (of-first r (alike (raised v scores) scores trail r (sym (raised-off v scores r.var off)) a))
              ])
              second;
          ready = more-ready;
        }

  -- a variable whose score rises has its record
  pub has-record : (v : Var) → next v ≡ raised v scores v → record_in table v ≡ None → ⊥
  has-record v rises none =
      let zero : scores v ≡ 0 = sym (are.counted v) ∙ met-of table v None none in
      omega (arith, zero, are.ready v none, rises, raised-at v scores)

-- the next rank of a variable is removed again
module _ (table : List (Var × Met)) (ranks : List Rank) (scores next : Var → ℕ) (trail : List Choice) (v : Var) (same : next v ≡ scores v) (are : AreBetween table ranks scores (raised v next) trail) where
  back-ready : (u : Var) → record_in table u ≡ None → next u ≡ scores u
  back-ready u none = elim (one-or-other u v) [
    | inl e ↦ ap next e ∙ same ∙ ap scores (sym e)
    | inr other ↦ sym (raised-off v next u (apart u v other)) ∙ are.ready u none
  ]

  pub withdrawn : (n : ℕ) (last : List Rank) → n ≡ met_by table v → n < cap
      → ((r : Rank) → has_rank last r ≡ not (same_rank (rank_of (n + 1) v) r) && has_rank ranks r) → AreBetween table last scores next trail
  withdrawn n last n-is less dropped =
      let was : n ≡ scores v = n-is ∙ are.counted v in
      let its : raised v next v ≡ n + 1 = raised-below v next (omega (arith, was, same, less)) ∙ ap (λ k. k + 1) (same ∙ sym was) in
      let first : (r : Rank) → Ranked scores trail r → has_rank last r ≡ true =
      λ r a. dropped r ∙ stays (same_rank (rank_of (n + 1) v) r) (has_rank ranks r) (other-score (n + 1) v scores trail r a (λ e. omega (arith, e, was, less)))
      (of-first table ranks scores (raised v next) trail are r a) in
      record {
        counted = are.counted;
        noted = are.noted;
        ranked = ranked-by-both last scores next trail
            (λ r h.
            let parts = and_parts (not (same_rank (rank_of (n + 1) v) r)) (has_rank ranks r) (sym (dropped r) ∙ h) in
            elim (of-either table ranks scores (raised v next) trail are r parts.1) [
              | inl a ↦ inl a
              | inr b ↦ elim (one-or-other r.var v) [
                | inl e ↦
                    let one : same_rank (rank_of (n + 1) v) r ≡ true =
                    ap (same_rank (rank_of (n + 1) v)) (its-rank (raised v next) trail r v b e ∙ ap (λ k. rank_of k v) its) ∙ same-rank-refl (rank_of (n + 1) v) in
                    absurd (false≢true (sym (not-true (same_rank (rank_of (n + 1) v) r) parts.0) ∙ one))
                | inr other ↦ inr (alike (raised v next) next trail r (sym (raised-off v next r.var (apart r.var v other))) b)
              ]
            ])
            first
            (λ r b. elim (one-or-other r.var v) [
              | inl e ↦ first r (alike next scores trail r (ap scores e ∙ sym same ∙ ap next (sym e)) b)
              | inr other ↦
                  let off = apart r.var v other in
                  dropped r ∙ stays (same_rank (rank_of (n + 1) v) r) (has_rank ranks r) (other-rank (n + 1) v r off)
                  (of-next table ranks scores (raised v next) trail are r (alike next (raised v next) trail r (raised-off v next r.var off) b))
            ]);
        ready = back-ready;
      }

-- the last choice is undone

module _ (table : List (Var × Met)) (ranks : List Rank) (scores : Var → ℕ) (front : List Choice) (c : Choice) (new : value_in front c.var ≡ None)
    (are : AreScored table ranks scores (front ++ c ∷ [])) where
  earlier : (r : Rank) → Ranked scores (front ++ c ∷ []) r → Ranked scores front r
  earlier r ranked = record { met = ranked.met; rest = ranked.rest; free = value_in-none front (c ∷ []) r.var ranked.free }

  later : (r : Rank) → Ranked scores front r → (c.var ≡ r.var → ⊥) → Ranked scores (front ++ c ∷ []) r
  later r ranked other = record { met = ranked.met; rest = ranked.rest; free = still-free front c r.var ranked.free other }

  member : (r : Rank) → has_rank ranks r ≡ true → Ranked scores front r
  member r h = earlier r (member-ranked table ranks scores (front ++ c ∷ []) are r h)

  -- its variable has a score above 0
  pub scored-back : (n : ℕ) (now : List Rank) → n ≡ scores c.var → 0 < n → ((r : Rank) → has_rank now r ≡ same_rank (rank_of n c.var) r || has_rank ranks r)
      → (after : List (Var × Met)) → ((u : Var) → met_by after u ≡ met_by table u) → AreNoted after front → AreScored after now scores front
  scored-back n now n-is met put after same noted =
      record {
        counted = λ u. same u ∙ are.counted u;
        noted = noted;
        ranked = λ r. both-ways (has_rank now r) (is_ranked scores front r)
            (λ h. is-ranked scores front r (elim (either (same_rank (rank_of n c.var) r) (has_rank ranks r) (sym (put r) ∙ h)) [
              | inl same ↦ subst (Ranked scores front) (same-rank-is (rank_of n c.var) r same)
                  (record { met = subst (λ m. 0 < m) n-is met; rest = ap (λ m. cap - m) n-is; free = new })
              | inr kept ↦ member r kept
            ]))
            (λ h.
            let ranked = ranked-is scores front r h in
            put r ∙ elim (one-or-other c.var r.var) [
              | inl e ↦ or_left (same_rank (rank_of n c.var) r) (has_rank ranks r)
                  (ap (same_rank (rank_of n c.var)) (its-rank scores front r c.var ranked (sym e) ∙ ap (λ m. rank_of m c.var) (sym n-is)) ∙ same-rank-refl (rank_of n c.var))
              | inr other ↦ or_right (same_rank (rank_of n c.var) r) (has_rank ranks r)
                  (ranked-member table ranks scores (front ++ c ∷ []) are r (later r ranked (apart c.var r.var other)))
            ]);
      }

  -- its variable has the score 0
  pub scored-still : scores c.var ≡ 0 → (after : List (Var × Met)) → ((u : Var) → met_by after u ≡ met_by table u) → AreNoted after front
      → AreScored after ranks scores front
  scored-still never after same noted = record {
    counted = λ u. same u ∙ are.counted u;
    noted = noted;
    ranked = λ r. both-ways (has_rank ranks r) (is_ranked scores front r)
        (λ h. is-ranked scores front r (member r h))
        (λ h.
        let ranked = ranked-is scores front r h in
        ranked-member table ranks scores (front ++ c ∷ []) are r (later r ranked (λ e. omega (arith, ranked.met, never, ap scores e))));
  }

  -- its record says so
  pub noted-back : (after : List (Var × Met)) (m : Met) → m.chosen ≡ false → ((u : Var) → record_in after u ≡ cond (same_var c.var u) (Some m) (record_in table u)) → AreNoted after front
  noted-back after m unset set =
      set-noted table after c.var m set (front ++ c ∷ []) front are.noted (unset ∙ sym (ap is_some new)) (λ u off. sym (still-noted front c u (λ k. off (sym k))))

-- each variable of a set has one more in its score

pub raised_all-push : (vars : List Var) (v : Var) (scores : Var → ℕ) → raised_all (vars ++ v ∷ []) scores ≡ raised v (raised_all vars scores)
raised_all-push [] v scores = refl
raised_all-push (w ∷ vars) v scores = raised_all-push vars v (raised w scores)

raised_all-is : (vars : List Var) (scores : Var → ℕ) (u : Var) → is_rising vars ≡ true → raised_all vars scores u ≡ cond (has vars u) (min (scores u + 1) cap) (scores u)
raised_all-is [] scores u h = refl
raised_all-is (v ∷ vars) scores u h =
    raised_all-is vars (raised v scores) u (rising-tail v vars h)
    ∙ elim (one-or-other v u) [
      | inl e ↦
          let out : has vars u ≡ false = elim (has vars u) as (λ b. has vars u ≡ b → b ≡ false) [
            | true ↦ λ k. absurd (apart v u (before-not-same v u (rising-below v vars u h (has-contains vars u k))) e)
            | false ↦ λ k. refl
          ] refl in
          let same : same_var v u ≡ true = ap (same_var v) (sym e) ∙ same_var-refl v in
          ap (λ b. cond b (min (raised v scores u + 1) cap) (raised v scores u)) out
          ∙ ap (λ b. cond b (min (scores u + 1) cap) (scores u)) same
          ∙ sym (ap (λ b. cond (b || has vars u) (min (scores u + 1) cap) (scores u)) same)
      | inr other ↦
          ap (λ n. cond (has vars u) (min (n + 1) cap) n) (raised-off v scores u (λ e. apart v u other (sym e)))
          ∙ sym (ap (λ b. cond (b || has vars u) (min (scores u + 1) cap) (scores u)) other)
    ]

one-more : (set : List Var) (met : List (List Var)) (u : Var) → cond (has set u) (min (score met u + 1) cap) (score met u) ≡ score (set ∷ met) u
one-more set met u =
    elim (has set u) as (λ b. cond b (min (score met u + 1) cap) (score met u) ≡ min (length (cond b (set ∷ filter (λ s. has s u) met) (filter (λ s. has s u) met))) cap) [
      | true ↦ omega arith
      | false ↦ refl
    ]

pub raised-set : (set : List Var) (met : List (List Var)) (u : Var) → is_rising set ≡ true → raised_all set (score met) u ≡ score (set ∷ met) u
raised-set set met u h = raised_all-is set (score met) u h ∙ one-more set met u

-- a clause on failure holds where a call fails
pub err-where : {T E : Type 0} {P : Type 0} (r : Result T E) → OnErr r P → is_err r ≡ true → P
err-where (Ok t) h k = absurd (false≢true k)
err-where (Err e) h k = h

pub positive : (n : ℕ) → (n ≡ 0 → ⊥) → 0 < n
positive zero h = absurd (h refl)
positive (suc n) h = omega arith

-- the scores with the old ranks
pub scored-ranks : (table : List (Var × Met)) (ranks last : List Rank) (scores : Var → ℕ) (trail : List Choice) → last ≡ ranks → AreScored table ranks scores trail → AreScored table last scores trail
scored-ranks table ranks last scores trail e are = subst (λ l. AreScored table l scores trail) (sym e) are

pub scored-alike : (table : List (Var × Met)) (ranks : List Rank) (f g : Var → ℕ) (trail : List Choice) → ((u : Var) → f u ≡ g u) → AreScored table ranks f trail → AreScored table ranks g trail
scored-alike table ranks f g trail same are = record {
  counted = λ v. are.counted v ∙ same v;
  noted = are.noted;
  ranked = λ r. are.ranked r ∙ ap (λ n. nat_lt 0 n && (nat_eq r.rest (cap - n) && is_none (value_in trail r.var))) (same r.var);
}

-- the variables of a set one after another

before-raised : (vars : List Var) → is_rising vars ≡ true → (f : Var → ℕ) (k : ℕ) (d : Var) → k < length vars → raised_all (take k vars) f (get_or vars k d) ≡ f (get_or vars k d)
before-raised [] h f k d l = absurd (omega (arith, l))
before-raised (w ∷ vars) h f zero d l = refl
before-raised (w ∷ vars) h f (suc k) d l =
    before-raised vars (rising-tail w vars h) (raised w f) k d (omega (arith, l))
    ∙ raised-off w f (get_or vars k d)
    (λ e. apart w (get_or vars k d) (before-not-same w (get_or vars k d) (rising-below w vars (get_or vars k d) h (Contains-get_or vars k d (omega (arith, l))))) (sym e))

module _ (vars : List Var) (rising : is_rising vars ≡ true) (scores : Var → ℕ) (i : ℕ) (d : Var) (within : i < length vars) where
  -- the variables before it don't raise its score
  pub not-yet : raised_all (take i vars) scores (get_or vars i d) ≡ scores (get_or vars i d)
  not-yet = before-raised vars rising scores i d within

  pub next-one : raised_all (take (i + 1) vars) scores ≡ raised (get_or vars i d) (raised_all (take i vars) scores)
  next-one =
      let next : i + 1 ≡ suc i = omega arith in
      ap (λ n. raised_all (take n vars) scores) next ∙ ap (λ l. raised_all l scores) (take-suc vars i d within) ∙ raised_all-push (take i vars) (get_or vars i d) scores

  -- the whole set raises its score once
  pub next-score : raised_all vars scores (get_or vars i d) ≡ raised (get_or vars i d) (raised_all (take i vars) scores) (get_or vars i d)
  next-score =
      let v = get_or vars i d in
      raised_all-is vars scores v rising
      ∙ ap (λ b. cond b (min (scores v + 1) cap) (scores v)) (contains-has vars v (Contains-get_or vars i d within))
      ∙ ap (λ n. min (n + 1) cap) (sym not-yet) ∙ sym (raised-at v (raised_all (take i vars) scores))
