-- The meaning of an outcome of the search that counts conflicts.
use Rattle.std.proofs.Common.{◌≡◌, ℕ, refl, sym, ap, ◌∙◌, subst}
use Rattle.plan_types.specs.declared.limit.Limit.{Limit}
use Rattle.plan_types.specs.declared.limit.Limit.TheVariants.{Unlimited, At}
use Rattle.choice_problem.specs.declared.outcome.Counts.{Counts}
use Rattle.choice_problem.specs.Problem.{Problem, Lawful}
use Rattle.choice_problem.specs.Guide.{most_met}
use Rattle.choice_problem.specs.Guides.{most-met-is-guide}
use Rattle.choice_problem.specs.Answer.{Ended, Found, Failed, GaveUp, Answer, guided_answer, outcome_by, outcome_of, printed}
use Rattle.choice_problem.specs.Sound.{IsValidEnd}
use Rattle.choice_problem.proofs.SearchEnds.{ends-valid}
use Rattle.choice_problem.proofs.SearchLimits.{limit-gives-up}
use Rattle.count_search.specs.Meaning.{MeansCounted}

module _ (p : Problem) (lawful : Lawful p) where
  valid-end : (limit : Limit) (e : Ended) → (guided_answer most_met p limit).ended ≡ e → (e ≡ GaveUp → ⊥) → IsValidEnd p e
  valid-end limit e ended goes_on =
      let same = limit-gives-up most_met p limit (λ gave. goes_on (sym ended ∙ gave)) in
      subst (IsValidEnd p) (ap (λ (a : Answer). a.ended) (sym same) ∙ ended) (ends-valid p lawful most_met most-met-is-guide)

  at-limit : (limit : Limit) → (guided_answer most_met p limit).ended ≡ GaveUp → (most : ℕ) × (limit ≡ At most)
  at-limit Unlimited ended =
      let none : IsValidEnd p GaveUp = subst (IsValidEnd p) ended (ends-valid p lawful most_met most-met-is-guide) in
      absurd none
  at-limit (At most) ended = (most, refl)

  means-by : (limit : Limit) (e : Ended) (counts : Counts) → (guided_answer most_met p limit).ended ≡ e → MeansCounted p limit (outcome_by e counts)
  means-by limit (Found trail) counts ended = valid-end limit (Found trail) ended (λ h. cc h)
  means-by limit (Failed set) counts ended = valid-end limit (Failed set) ended (λ h. cc h)
  means-by limit GaveUp counts ended = at-limit limit ended

  pub means-counted : (limit : Limit) → MeansCounted p limit (outcome_of (guided_answer most_met p limit))
  means-counted limit = let answer = guided_answer most_met p limit in means-by limit answer.ended (printed answer.past.counts) refl
