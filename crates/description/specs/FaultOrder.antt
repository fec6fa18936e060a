-- The first of some faults.
use Rattle.std.specs.Prelude.{◌≡◌, ℕ, Bool, ◌&&◌, ◌||◌, ◌==◌, nat_lt, if◌then◌else◌, List, [], ◌∷◌, Option, Some, None}
use Rattle.std.specs.declared.result.Result.{Result}
use Rattle.std.specs.declared.result.Result.TheVariants.{Ok, Err}
use Rattle.plan_types.specs.declared.refusal.Cause.{Cause}
use Rattle.plan_types.specs.declared.refusal.Cause.TheVariants as causes
use Rattle.plan_types.specs.declared.refusal.Fault.{Fault}
use Rattle.plan_types.specs.declared.refusal.Fault.TheVariants as fault
use Rattle.description.specs.declared.fault_order.At.{At}

-- a cause at a line
abbrev pub is_at : ℕ → Cause → At
is_at line cause = record { line = line; cause = cause }

-- The result is the only outcome there is; nothing is known of an outcome when out of memory.
unfoldable pub IsOnly : {A : Type 0} → (Result A At → Type 0) → Result A Fault → Type 0
IsOnly {A = A} IsFaultlessOutcome (Ok found) = (outcome : Result A At) → IsFaultlessOutcome outcome → outcome ≡ Ok found
IsOnly IsFaultlessOutcome (Err fault.NoMemory) = Unit {0}
IsOnly {A = A} IsFaultlessOutcome (Err (fault.At line cause)) = (outcome : Result A At) → IsFaultlessOutcome outcome → outcome ≡ Err (is_at line cause)

-- the rank of a cause among the faults of one line
abbrev pub rank : Cause → ℕ
rank causes.NotUtf8 = 0
rank causes.StrayBrace = 1
rank causes.UnclosedBrace = 2
rank causes.BadName = 3
rank causes.TooDeep = 4
rank causes.BadVersion = 5
rank causes.BadRange = 6
rank causes.NeedsVersion = 7
rank causes.BadCond = 8
rank causes.BadDepend = 9
rank causes.BadConstraint = 10
rank causes.MissingField = 11
rank causes.WrongCabalVersion = 12
rank causes.BadField = 13
rank causes.DuplicateName = 14
rank causes.UnknownStanza = 15
rank causes.UnknownFlag = 16
rank causes.ImportNotFirst = 17
rank causes.ElseWithoutIf = 18
rank causes.UnknownComponent = 19
rank causes.ComponentCycle = 20
rank causes.TooManyPaths = 21
rank causes.Unsupported = 22
rank causes.NoMatch = 23
rank causes.TwoCabalFiles = 24
rank causes.NoPackages = 25
rank causes.TooLarge = 26
rank causes.WrongPlace = 27
rank causes.BadRecord = 28
rank causes.DuplicateLocal = 29
rank causes.DuplicateUnit = 30
rank causes.TooMany = 31
rank causes.BadEvent = 32

-- by line, and on one line by the rank of the cause
abbrev pub is_before : At → At → Bool
is_before a b = nat_lt a.line b.line || (a.line == b.line && nat_lt (rank a.cause) (rank b.cause))

-- the earlier of two faults, or the only one
abbrev pub earlier : Option At → Option At → Option At
earlier None b = b
earlier (Some a) None = Some a
earlier (Some a) (Some b) = if is_before b a then Some b else Some a

-- the least fault in this order
abbrev pub first : List At → Option At
first [] = None
first (a ∷ faults) = earlier (Some a) (first faults)
