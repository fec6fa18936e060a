-- The meaning of a search's end, with any limit.
use Rattle.std.proofs.Common.{◌≡◌, ◌≢◌, refl, sym, ap, ◌∙◌, subst}
use Rattle.plan_types.specs.declared.limit.Limit.{Limit}
use Rattle.plan_types.specs.declared.limit.Limit.TheVariants.{Unlimited}
use Rattle.choice_problem.specs.Problem.{Problem, Lawful}
use Rattle.choice_problem.specs.General.{general}
use Rattle.choice_problem.specs.Trail.{value_in, AreNew}
use Rattle.choice_problem.specs.Valid.{IsWholeValid}
use Rattle.choice_problem.specs.Guide.{least}
use Rattle.choice_problem.specs.Guides.{least-is-guide}
use Rattle.choice_problem.specs.Answer.{Ended, Found, Failed, GaveUp, answer_of}
use Rattle.choice_problem.specs.Sound.{IsValidEnd}
use Rattle.choice_problem.proofs.SearchEnds.{ends-valid}
use Rattle.choice_problem.proofs.SearchLimits.{limit-gives-up}
use Rattle.conflict_shrink.specs.Restricted.{HasNoPlan}

-- the trail is complete and valid, or none exists, or there is a limit
abbrev pub Says : Problem → Limit → Ended → Type 0
Says q limit (Found trail) = AreNew trail × IsWholeValid (general q) (value_in trail)
Says q limit (Failed set) = HasNoPlan q
Says q limit GaveUp = limit ≡ Unlimited → ⊥

module _ (q : Problem) (limit : Limit) (lawful : Lawful q) where
  unlimited : IsValidEnd q (answer_of q Unlimited).ended
  unlimited = ends-valid q lawful least least-is-guide

  ends-alike : (e : Ended) → (answer_of q limit).ended ≡ e → e ≢ GaveUp → IsValidEnd q e
  ends-alike e h not =
      subst (IsValidEnd q) (sym (ap (λ a. a.ended) (limit-gives-up least q limit (λ k. not (sym h ∙ k)))) ∙ h) unlimited

  pub says : Says q limit (answer_of q limit).ended
  says =
      elim (answer_of q limit).ended as (λ e. (answer_of q limit).ended ≡ e → Says q limit e) [
        | Found trail ↦ λ h. ends-alike (Found trail) h (λ k. absurd (cc k))
        | Failed set ↦ λ h. (ends-alike (Failed set) h (λ k. absurd (cc k))).1
        | GaveUp ↦ λ h e. subst (IsValidEnd q) (ap (λ l. (answer_of q l).ended) (sym e) ∙ h) unlimited
      ] refl
