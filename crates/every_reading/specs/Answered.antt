-- Texts with a value or a fault.
use Rattle.std.specs.Prelude.{◌⊎◌}
use Rattle.plan_types.specs.declared.refusal.Cause.{Cause}

-- some value has the first property, or some cause has the second
abbrev pub Answered : {A : Type 0} → (A → Type 0) → (Cause → Type 0) → Type 0
Answered {A} Stands Fails = ((x : A) × Stands x) ⊎ ((cause : Cause) × Fails cause)
