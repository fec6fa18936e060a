-- Shared: a result is the only outcome if there is at most one.
use Rattle.std.proofs.Common.{◌≡◌, IfOk}
use Rattle.std.specs.Prelude.{IfErr}
use Rattle.std.specs.declared.result.Result.{Result}
use Rattle.std.specs.declared.result.Result.TheVariants.{Ok, Err}
use Rattle.plan_types.specs.Refusal.{RefusesAt}
use Rattle.plan_types.specs.declared.refusal.Fault.{Fault}
use Rattle.plan_types.specs.declared.refusal.Fault.TheVariants as fault
use Rattle.description.specs.FaultOrder.{IsOnly, is_at}
use Rattle.description.specs.declared.fault_order.At.{At}

pub is-only : {A : Type 0} (IsFaultlessOutcome : Result A At → Type 0) → ((a b : Result A At) → IsFaultlessOutcome a → IsFaultlessOutcome b → a ≡ b) → (result : Result A Fault)
    → IfOk result (λ x. IsFaultlessOutcome (Ok x)) → IfErr result (RefusesAt (λ line cause. IsFaultlessOutcome (Err (is_at line cause)))) → IsOnly IsFaultlessOutcome result
unfolding IsOnly
is-only IsFaultlessOutcome one (Ok found) is refused = λ outcome comes. one outcome (Ok found) comes is
is-only IsFaultlessOutcome one (Err fault.NoMemory) is refused = tt
is-only IsFaultlessOutcome one (Err (fault.At line cause)) is refused = λ outcome comes. one outcome (Err (is_at line cause)) comes refused
