-- Refusals, faults, and the outcomes of steps.
use Rattle.std.specs.Prelude.{ℕ, List, [], Result, Ok, Err}
use Rattle.plan_types.specs.declared.refusal.Cause.{Cause}
use Rattle.plan_types.specs.declared.refusal.Fault.{Fault}
use Rattle.plan_types.specs.declared.refusal.Fault.TheVariants as fault
use Rattle.plan_types.specs.declared.refusal.TextFault.{TextFault}
use Rattle.plan_types.specs.declared.refusal.TextFault.TheVariants as text_fault
use Rattle.plan_types.specs.declared.refusal.Halt.{Halt}
use Rattle.plan_types.specs.declared.refusal.Halt.TheVariants as halt
use Rattle.plan_types.specs.declared.refusal.Refusal.{Refusal}

-- a refusal without a detail
abbrev pub refusal_at : List ℕ → ℕ → Cause → Refusal
refusal_at path line cause = record { path = path; line = line; cause = cause; detail = [] }

-- a text's fault is out of memory, or a cause with this property
abbrev pub Refuses : (Cause → Type 0) → TextFault → Type 0
Refuses P text_fault.NoMemory = Unit {0}
Refuses P (text_fault.Bad cause) = P cause

-- a file's fault is out of memory, or a line and a cause with this property
abbrev pub RefusesAt : (ℕ → Cause → Type 0) → Fault → Type 0
RefusesAt P fault.NoMemory = Unit {0}
RefusesAt P (fault.At line cause) = P line cause

-- a step's outcome has this property, unless a read failed or memory ran out
abbrev pub Answers : {A : Type 0} → (Result A Refusal → Type 0) → Result A Halt → Type 0
Answers Is (Ok a) = Is (Ok a)
Answers Is (Err halt.NoMemory) = Unit {0}
Answers Is (Err halt.Failed) = Unit {0}
Answers Is (Err (halt.Refused refusal)) = Is (Err refusal)

-- the same for a step that reads no folder, so that no read fails
abbrev pub Settles : {A : Type 0} → (Result A Refusal → Type 0) → Result A Halt → Type 0
Settles Is (Ok a) = Is (Ok a)
Settles Is (Err halt.NoMemory) = Unit {0}
Settles Is (Err halt.Failed) = ⊥
Settles Is (Err (halt.Refused refusal)) = Is (Err refusal)
