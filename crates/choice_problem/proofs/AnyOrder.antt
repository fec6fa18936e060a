-- Choices of open variables, until none is open, have the variables of their assignment's trail.
use Rattle.std.proofs.Common.{◌≡◌, ◌↔◌, ℕ, zero, suc, true, false, List, [], ◌∷◌, ◌++◌, map, get_or, Some, None, refl, sym, ap, ◌∙◌, subst, inl, inr, ◌⊎◌, append_assoc}
use Rattle.std.specs.Prelude.{is_none, is_some, IsSome}
use Rattle.std.specs.List.{Contains, All}
use Rattle.std.proofs.lemmas.Bool.{false≢true, and_parts}
use Rattle.std.proofs.lemmas.List.{append-nil}
use Rattle.std.proofs.lemmas.List.Elements.{All-contains, All-push, All-nil, Contains-get_or}
use Rattle.qualified_goals.specs.declared.variable.Var.{Var}
use Rattle.choice_problem.specs.declared.problem.Choice.{Choice}
use Rattle.choice_problem.specs.Problem.{Problem, IsChoice, Lawful}
use Rattle.choice_problem.specs.Assignment.{Assignment}
use Rattle.choice_problem.specs.General.{Request, General, LawfulGeneral, general}
use Rattle.choice_problem.specs.Trail.{value_in, next_var, with_next, with_value, choice_of, trail_from, trail_of, demands_after}
use Rattle.choice_problem.specs.Active.{open_in}
use Rattle.choice_problem.specs.ConflictSet.{first_of}
use Rattle.choice_problem.specs.Sound.{AreOpened, none_opened, one_opened, AnyOrderNamesAlike}
use Rattle.common_laws.specs.Lists.{contains-none, contains-left, contains-map, map-contains}
use Rattle.choice_problem.proofs.TrailLemmas.{value_in-made, value_in-new, Passes, passes-push, passes-trail, open-is, open-unchosen, next-open, next-none, demand-after, yes-after, Room, room-start, room-zero, room-next, choice-general, passes-yes-general, general-lawful}
use Rattle.choice_problem.proofs.ConflictLemmas.{and-false}

-- how the trail of an assignment ends

module _ (g : General) (lawful : LawfulGeneral g) (A : Assignment) (is : (c : Choice) → A c.var ≡ Some c.val → IsChoice g c) where
  -- nothing is open, or A has no value for the least open variable
  abbrev pub IsTrailEnd : List Choice → Type 0
  IsTrailEnd trail = (next_var g trail ≡ None) ⊎ ((v : Var) × (next_var g trail ≡ Some v) × (A v ≡ None))

  pub trail-ends : (fuel : ℕ) (trail : List Choice) → All (IsChoice g) trail → Room g lawful fuel trail → IsTrailEnd (trail_from fuel g A trail)
  trail-ends zero trail choices room =
      elim (next_var g trail) as (λ o. next_var g trail ≡ o → IsTrailEnd trail) [
        | None ↦ λ e. inl e
        | Some v ↦ λ e. absurd (room-zero g lawful trail v choices (next-open g trail v e) room)
      ] refl
  trail-ends (suc fuel) trail choices room =
      elim (next_var g trail) as (λ o. next_var g trail ≡ o → IsTrailEnd (with_next o trail (λ v. with_value (A v) trail (λ n. trail_from fuel g A (trail ++ choice_of v n ∷ []))))) [
        | None ↦ λ e. inl e
        | Some v ↦ λ e. elim (A v) as (λ o. A v ≡ o → IsTrailEnd (with_value o trail (λ n. trail_from fuel g A (trail ++ choice_of v n ∷ [])))) [
          | None ↦ λ k. inr (v, e, k)
          | Some n ↦ λ k.
              trail-ends fuel (trail ++ choice_of v n ∷ []) (All-push (IsChoice g) trail (choice_of v n) choices (is (choice_of v n) k))
              (room-next g lawful fuel trail v n choices (next-open g trail v e) room)
        ] refl
      ] refl

module _ (p : Problem) (lawful : Lawful p) where
  -- a request that is Yes, where nothing is open, has a target with a value
  closed : (trail : List Choice) → next_var (general p) trail ≡ None → (r : Request) → Contains (demands_after (general p) trail) r → r.is_yes (value_in trail) ≡ true → is_none (value_in trail r.target) ≡ false
  closed trail end r member is = and-false (r.is_yes (value_in trail)) (is_none (value_in trail r.target)) (next-none (general p) trail end r member) is

  module _ (trail : List Choice) (choices : All (IsChoice p) trail) (end : open_in p trail ≡ []) where
    abbrev made : Assignment
    made = value_in trail

    abbrev again : List Choice
    again = trail_of (general p) made

    front-choices : (before more : List Choice) → trail ≡ before ++ more → All (IsChoice (general p)) before
    front-choices before more e k d h =
        let c = get_or before k d in
        choice-general p c (All-contains (IsChoice p) trail c choices (subst (λ t. Contains t c) (sym e) (contains-left before more c (Contains-get_or before k d h))))

    made-choice : (c : Choice) → made c.var ≡ Some c.val → IsChoice (general p) c
    made-choice c h = choice-general p c (All-contains (IsChoice p) trail c choices (value_in-made trail c.var c.val h))

    again-made : Passes made again
    again-made = passes-trail (general p) made p.bound [] (λ c k. absurd (contains-none c k))

    again-choices : All (IsChoice (general p)) again
    again-choices k d h = made-choice (get_or again k d) (again-made (get_or again k d) (Contains-get_or again k d h))

    again-ends : next_var (general p) again ≡ None
    again-ends =
        elim (trail-ends (general p) (general-lawful p lawful) made made-choice p.bound [] (All-nil (IsChoice (general p))) (room-start (general p) (general-lawful p lawful))) [
          | inl e ↦ e
          | inr (v, next, none) ↦
              let o = open-is (general p) again v (next-open (general p) again v next) in
              let r = o.request in
              let is = demand-after (general p) again r again-choices o.member in
              let held = passes-yes-general p made again r is again-made ((and_parts (r.is_yes (value_in again)) (is_none (value_in again r.target)) o.opens_it).0) in
              let full = closed trail (ap first_of end) r (yes-after (general p) trail r (general-lawful p lawful) is held) held in
              absurd (false≢true (sym full ∙ ap (λ u. is_none (made u)) o.target ∙ ap is_none none))
        ]

    -- the choices of a front are made again
    front-again : {before : List Choice} → AreOpened p before → (more : List Choice) → trail ≡ before ++ more → Passes (value_in again) before
    front-again none_opened more e = λ c k. absurd (contains-none c k)
    front-again (one_opened {before = before} opened c opens all) more e =
        let front : trail ≡ before ++ c ∷ more = e ∙ ap (λ l. l ++ more) all ∙ append_assoc before (c ∷ []) more in
        let passes = front-again opened (c ∷ more) front in
        let o = open-is (general p) before c.var opens in
        let r = o.request in
        let is = demand-after (general p) before r (front-choices before (c ∷ more) front) o.member in
        let held = passes-yes-general p (value_in again) before r is passes ((and_parts (r.is_yes (value_in before)) (is_none (value_in before r.target)) o.opens_it).0) in
        let full = closed again again-ends r (yes-after (general p) again r (general-lawful p lawful) is held) held in
        let was : made c.var ≡ Some c.val = ap (λ t. value_in t c.var) front ∙ value_in-new before more c.var c.val (open-unchosen (general p) before c.var opens) in
        let now : value_in again c.var ≡ Some c.val =
        elim (value_in again c.var) as (λ x. value_in again c.var ≡ x → is_none x ≡ false → x ≡ Some c.val) [
          | None ↦ λ k l. absurd (false≢true (sym l))
          | Some n ↦ λ k l. sym (again-made (choice_of c.var n) (value_in-made again c.var n k)) ∙ was
        ] refl (ap (λ u. is_none (value_in again u)) (sym o.target) ∙ full) in
        subst (Passes (value_in again)) (sym all) (passes-push (value_in again) before c passes now)

    pub named-alike : AreOpened p trail → (v : Var) → IsSome (made v) ↔ Contains (map (λ (c : Choice). c.var) again) v
    named-alike opened v = (
      (λ some. elim (made v) as (λ o. made v ≡ o → is_some o ≡ true → Contains (map (λ (c : Choice). c.var) again) v) [
        | None ↦ λ e k. absurd (false≢true k)
        | Some n ↦ λ e k.
            let all = front-again opened [] (sym (append-nil trail)) in
            map-contains (λ (c : Choice). c.var) again (choice_of v n) (value_in-made again v n (all (choice_of v n) (value_in-made trail v n e)))
      ] refl some),
      (λ named.
          let of = contains-map (λ (c : Choice). c.var) again v named in
          subst (λ w. is_some (made w) ≡ true) of.2 (ap is_some (again-made of.0 of.1))),
    )

  pub any-order : AnyOrderNamesAlike p
  any-order trail choices opened end v = named-alike trail choices end opened v
