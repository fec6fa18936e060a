-- The outcome of a read.
use Rattle.std.specs.declared.result.Result.{Result}
use Rattle.std.specs.declared.result.Result.TheVariants.{Ok, Err}
use Rattle.plan_types.specs.declared.refusal.Cause.{Cause}

-- a value with one property, or a cause with another
abbrev pub Read : {A : Type 0} → (A → Type 0) → (Cause → Type 0) → Result A Cause → Type 0
Read Stands Fails (Ok found) = Stands found
Read Stands Fails (Err cause) = Fails cause
