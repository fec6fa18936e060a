-- Lists whose items have distinct keys.
use Rattle.std.specs.Prelude.{ℕ, List, [], ◌∷◌, ◌++◌, slice_get, Option, Some, None, Result, Ok, Err}
use Rattle.plan_types.specs.declared.refusal.Cause.{Cause}
use Rattle.plan_types.specs.declared.refusal.Refusal.{Refusal}
use Rattle.outside_folder.specs.Files.{Bytes}

-- the path of the item at a place
abbrev pub path_at : {X : Type 0} → (X → Bytes) → List X → ℕ → Bytes
path_at path_of kept place = elim (slice_get kept place) [ None ↦ [] | Some x ↦ path_of x ]

-- an item appended if its key is new; else a refusal, with the path of the earlier item
abbrev pub unless_there : {X : Type 0} → (X → Bytes) → Cause → Option ℕ → List X → X → Result (List X) Refusal
unless_there path_of cause None kept x = Ok (kept ++ x ∷ [])
unless_there path_of cause (Some place) kept x =
    Err (record { path = path_of x; line = 0; cause = cause; detail = path_at path_of kept place })
