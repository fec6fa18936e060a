-- The choices in front of one of a trail are of other variables.
use Rattle.std.proofs.Common.{◌≡◌, ◌<◌, ◌≤◌, ◌+◌, ℕ, List, [], ◌∷◌, length, take, get_or, None, sym, ap, subst, ◌∙◌, inl, inr, arith}
use Rattle.std.proofs.lemmas.Bool.{cases_lt}
use Rattle.std.proofs.lemmas.List.{length_push, take-append-le, take_all, take_more}
use Rattle.choice_problem.specs.declared.problem.Choice.{Choice}
use Rattle.choice_problem.specs.Trail.{AreNew, before_any, one_more, value_in}
use Rattle.choice_problem.proofs.TrailEnds.{new-last}

new-front : {trail : List Choice} → AreNew trail → (n : ℕ) → AreNew (take n trail)
new-front before_any n = subst AreNew (sym (take_all n [] (omega arith))) before_any
new-front (one_more {before = before} {all = all} new c free is) n = elim (cases_lt (length before) n) [
  | inl longer ↦
      let whole : length all ≤ n = omega (arith, ap length is ∙ length_push before c, longer) in
      subst AreNew (sym (take_all n all whole)) (one_more new c free is)
  | inr shorter ↦ subst AreNew (sym (ap (take n) is ∙ take-append-le n before (c ∷ []) shorter)) (new-front new n)
]

-- so is the next one after some
pub next_is_new : {trail : List Choice} → AreNew trail → (i : ℕ) (none : Choice) → i < length trail → value_in (take i trail) (get_or trail i none).var ≡ None
next_is_new {trail = trail} new i none below = new-last (new-front new (i + 1)) (take i trail) (get_or trail i none) (take_more trail i none below)
