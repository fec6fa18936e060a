-- Shared: two complete, valid assignments have one trail, or one of them comes before the other.
use Rattle.std.proofs.Common.{◌≡◌, ℕ, zero, suc, true, false, List, [], ◌∷◌, ◌++◌, map, Some, None, refl, sym, ap, ◌∙◌, subst, inl, inr, ◌⊎◌, append_assoc}
use Rattle.std.specs.Prelude.{is_none, is_some, nat_eq}
use Rattle.std.specs.List.{Contains}
use Rattle.std.proofs.lemmas.Bool.{false≢true, eqb-true, eq-eqb, and_parts}
use Rattle.qualified_goals.specs.declared.variable.Var.{Var}
use Rattle.choice_problem.specs.declared.problem.Choice.{Choice}
use Rattle.choice_problem.specs.Assignment.{Assignment, is_one_of}
use Rattle.choice_problem.specs.General.{General, LawfulGeneral}
use Rattle.choice_problem.specs.Trail.{value_in, next_var, choice_of, trail_from, trail_of}
use Rattle.choice_problem.specs.Valid.{IsWholeValid, IsEarlier, ComesBefore, IsFirst}
use Rattle.common_laws.specs.Lists.{contains-none, contains-cases, contains-map}
use Rattle.choice_problem.proofs.EdgePaths.{parted}
use Rattle.choice_problem.proofs.TrailLemmas.{Passes, passes-value, passes-push, value_in-some, open-is, next-open, demand-after, target-known, passes-choices, trail-step, trail-end, trail-stop, trail-front}

-- of two items one is earlier
earlier-one : (xs : List ℕ) (a b : ℕ) → Contains xs a → Contains xs b → (a ≡ b → ⊥) → IsEarlier xs a b ⊎ IsEarlier xs b a
earlier-one [] a b h k ne = absurd (contains-none a h)
earlier-one (x ∷ xs) a b h k ne =
    elim (contains-cases x xs a h) [
      | inl e ↦ elim (contains-cases x xs b k) [
        | inl f ↦ absurd (ne (sym e ∙ f))
        | inr r ↦ let s = parted xs b r in inl (subst (λ y. IsEarlier (x ∷ xs) y b) e ([], s.0, s.1, ap (λ l. x ∷ l) s.2))
      ]
      | inr q ↦ elim (contains-cases x xs b k) [
        | inl f ↦ let s = parted xs a q in inr (subst (λ y. IsEarlier (x ∷ xs) y a) f ([], s.0, s.1, ap (λ l. x ∷ l) s.2))
        | inr r ↦ elim (earlier-one xs a b q r ne) [
          | inl i ↦ inl (x ∷ i.0, i.1, i.2, ap (λ l. x ∷ l) i.3)
          | inr i ↦ inr (x ∷ i.0, i.1, i.2, ap (λ l. x ∷ l) i.3)
        ]
      ]
    ]

-- a trail of which A makes the choices, and which has each variable of A, is A
pub passes-all : (A : Assignment) (trail : List Choice) → Passes A trail → ((v : Var) → is_some (A v) ≡ true → Contains (map (λ (c : Choice). c.var) trail) v) → A ≡ value_in trail
passes-all A trail passes each =
    let at : (v : Var) → A v ≡ value_in trail v = λ v. elim (A v) as (λ o. A v ≡ o → o ≡ value_in trail v) [
      | None ↦ λ e. elim (value_in trail v) as (λ o. value_in trail v ≡ o → None ≡ o) [
        | None ↦ λ k. refl
        | Some n ↦ λ k. sym e ∙ passes-value A trail v n passes k
      ] refl
      | Some n ↦ λ e.
          let of = contains-map (λ (c : Choice). c.var) trail v (each v (ap is_some e)) in
          elim (value_in trail v) as (λ o. value_in trail v ≡ o → Some n ≡ o) [
            | None ↦ λ k. absurd (false≢true (ap is_some (sym k) ∙ subst (λ w. is_some (value_in trail w) ≡ true) of.2 (value_in-some trail of.0 of.1)))
            | Some m ↦ λ k. sym e ∙ passes-value A trail v m passes k
          ] refl
    ] refl in
    λ i v. at v i

module _ (g : General) (lawful : LawfulGeneral g) where
  -- a complete, valid assignment has a value for the next open variable of its trail
  whole-next : (A : Assignment) (fuel : ℕ) (trail : List Choice) (v : Var) → IsWholeValid g A → Passes A trail → trail_from (suc fuel) g A trail ≡ trail_of g A → next_var g trail ≡ Some v
      → (n : ℕ) × (A v ≡ Some n)
  whole-next A fuel trail v valid passes on next =
      elim (A v) as (λ o. A v ≡ o → (n : ℕ) × (o ≡ Some n)) [
        | Some n ↦ λ e. (n, refl)
        | None ↦ λ e.
            let whole = sym on ∙ trail-stop g A fuel trail v next e in
            let same = passes-all A trail passes (λ w some. subst (λ t. Contains (map (λ (c : Choice). c.var) t) w) whole ((valid.reached w).0 some)) in
            let o = open-is g trail v (next-open g trail v next) in
            let r = o.request in
            let is = demand-after g trail r (passes-choices g lawful g.known A valid.holds trail passes) o.member in
            let yes = subst (λ B. r.is_yes B ≡ true) (sym same) ((and_parts (r.is_yes (value_in trail)) (is_none (value_in trail r.target)) o.opens_it).0) in
            let met = valid.holds.met r is yes (target-known g r lawful is) in
            absurd (false≢true (subst (λ x. is_one_of x r.allowed ≡ true) (ap A o.target ∙ e) met))
      ] refl

  -- two trails are the same, or one of the assignments comes before the other
  abbrev Compared : Assignment → Assignment → Type 0
  Compared A B = (trail_of g A ≡ trail_of g B) ⊎ (ComesBefore g A B ⊎ ComesBefore g B A)

  before-at : (A B : Assignment) (fuel : ℕ) (trail : List Choice) (v : Var) (a b : ℕ) → trail_from (suc fuel) g A trail ≡ trail_of g A → trail_from (suc fuel) g B trail ≡ trail_of g B
      → next_var g trail ≡ Some v → A v ≡ Some a → B v ≡ Some b → IsEarlier (g.order v trail) a b → ComesBefore g A B
  before-at A B fuel trail v a b on_A on_B next of_A of_B earlier =
      let more = trail-front g A fuel (trail ++ choice_of v a ∷ []) in
      let other = trail-front g B fuel (trail ++ choice_of v b ∷ []) in
      record {
        common = trail;
        var = v;
        of_A = a;
        of_B = b;
        rest_of_A = more.0;
        rest_of_B = other.0;
        trail_of_A = sym on_A ∙ trail-step g A fuel trail v a next of_A ∙ more.1 ∙ append_assoc trail (choice_of v a ∷ []) more.0;
        trail_of_B = sym on_B ∙ trail-step g B fuel trail v b next of_B ∙ other.1 ∙ append_assoc trail (choice_of v b ∷ []) other.0;
        earlier = earlier;
      }

  module _ (A B : Assignment) (valid_A : IsWholeValid g A) (valid_B : IsWholeValid g B) where
    compared : (fuel : ℕ) (trail : List Choice) → Passes A trail → Passes B trail → trail_from fuel g A trail ≡ trail_of g A → trail_from fuel g B trail ≡ trail_of g B → Compared A B
    compared zero trail passes_A passes_B on_A on_B = inl (sym on_A ∙ on_B)
    compared (suc fuel) trail passes_A passes_B on_A on_B =
        elim (next_var g trail) as (λ o. next_var g trail ≡ o → Compared A B) [
          | None ↦ λ next. inl (sym on_A ∙ trail-end g A fuel trail next ∙ sym (trail-end g B fuel trail next) ∙ on_B)
          | Some v ↦ λ next.
              let made_A = whole-next A fuel trail v valid_A passes_A on_A next in
              let made_B = whole-next B fuel trail v valid_B passes_B on_B next in
              let a = made_A.0 in
              let b = made_B.0 in
              elim (nat_eq a b) as (λ t. nat_eq a b ≡ t → Compared A B) [
                | true ↦ λ same.
                    let also = made_B.1 ∙ ap Some (sym (eqb-true a b same)) in
                    compared fuel (trail ++ choice_of v a ∷ []) (passes-push A trail (choice_of v a) passes_A made_A.1) (passes-push B trail (choice_of v a) passes_B also)
                    (sym (trail-step g A fuel trail v a next made_A.1) ∙ on_A) (sym (trail-step g B fuel trail v a next also) ∙ on_B)
                | false ↦ λ other.
                    let is_A = valid_A.holds.assignment.choice (choice_of v a) made_A.1 in
                    let is_B = valid_B.holds.assignment.choice (choice_of v b) made_B.1 in
                    let each = (lawful.order v is_A.variable trail (passes-choices g lawful g.known A valid_A.holds trail passes_A)).each in
                    elim (earlier-one (g.order v trail) a b (each a is_A.value) (each b is_B.value) (λ e. false≢true (sym other ∙ eq-eqb a b e))) [
                      | inl i ↦ inr (inl (before-at A B fuel trail v a b on_A on_B next made_A.1 made_B.1 i))
                      | inr i ↦ inr (inr (before-at B A fuel trail v b a on_B on_A next made_B.1 made_A.1 i))
                    ]
              ] refl
        ] refl

  pub one-first : (A B : Assignment) → IsFirst g A → IsFirst g B → trail_of g A ≡ trail_of g B
  one-first A B first_A first_B =
      elim (compared A B first_A.whole_valid first_B.whole_valid g.bound [] (λ c k. absurd (contains-none c k)) (λ c k. absurd (contains-none c k)) refl refl) [
        | inl same ↦ same
        | inr before ↦ elim before [
          | inl front ↦ absurd (first_B.none_before A first_A.whole_valid front)
          | inr back ↦ absurd (first_A.none_before B first_B.whole_valid back)
        ]
      ]
