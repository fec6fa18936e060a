-- Shared: outcomes that are known under a true premise.
use Rattle.std.proofs.Common.{ℕ}
use Rattle.std.specs.Prelude.{IfErr}
use Rattle.std.specs.declared.result.Result.{Result}
use Rattle.std.proofs.lemmas.Result.{IfErr-weaker}
use Rattle.plan_types.specs.Refusal.{RefusesAt}
use Rattle.plan_types.specs.declared.refusal.Cause.{Cause}
use Rattle.plan_types.specs.declared.refusal.Fault.{Fault}
use Rattle.plan_types.specs.declared.refusal.Fault.TheVariants as fault

pub refused-as : (f : Fault) (P Q : ℕ → Cause → Type 0) → ((line : ℕ) (cause : Cause) → P line cause → Q line cause) → RefusesAt P f → RefusesAt Q f
refused-as fault.NoMemory P Q turn h = tt
refused-as (fault.At line cause) P Q turn h = turn line cause h

pub told-err : {A : Type 0} (r : Result A Fault) (P Q : ℕ → Cause → Type 0) → ((line : ℕ) (cause : Cause) → P line cause → Q line cause) → IfErr r (RefusesAt P) → IfErr r (RefusesAt Q)
told-err r P Q turn = IfErr-weaker r (RefusesAt P) (RefusesAt Q) (λ f. refused-as f P Q turn)
