-- Small examples of words, and of lines on standard error.
use Rattle.std.specs.Prelude.{◌≡◌, refl, [], ◌∷◌, codes, None}
use Rattle.plan_command.specs.declared.status.Status.TheVariants.{NoPlan}
use Rattle.cabal_plan.specs.Failure.{failure_of}
use Rattle.cabal_plan.specs.Words.{words_of}

behind_the_name : words_of (codes "cabal-plan" ∷ codes "plan" ∷ []) ≡ codes "plan" ∷ []
behind_the_name = refl

-- called without a name
no_name : words_of [] ≡ []
no_name = refl

-- that there is no plan is printed on standard output
no_plan_is_no_failure : failure_of NoPlan ≡ None
no_plan_is_no_failure = refl
