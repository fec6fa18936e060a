-- The source of a file.
use Rattle.std.specs.Prelude.{◌≡◌, [], Option, Some, None}
use Rattle.std.specs.declared.result.Result.{Result}
use Rattle.std.specs.declared.result.Result.TheVariants.{Err}
use Rattle.plan_types.specs.declared.condition.Env.{Env}
use Rattle.plan_types.specs.declared.refusal.Cause.TheVariants.{TooLarge as ItIsTooLarge}
use Rattle.outside_folder.specs.declared.calls.Content.{Content}
use Rattle.outside_folder.specs.declared.calls.Content.TheVariants.{Missing, TooLarge, Bytes as Holds}
use Rattle.outside_folder.specs.Files.{Bytes}
use Rattle.description.specs.FaultOrder.{is_at}
use Rattle.description.specs.declared.fault_order.At.{At}
use Rattle.cabal_file.specs.Source.{IsSource}
use Rattle.plan_types.specs.declared.index.Source.{Source}

-- the bytes of a file: empty if it is missing, nothing if it is too large
abbrev pub bytes_in : Content → Option Bytes
bytes_in Missing = Some []
bytes_in TooLarge = None
bytes_in (Holds bytes) = Some bytes

-- the outcome of these bytes, or the fault of a file that is too large
abbrev pub OfBytes : Env → Option Bytes → Result Source At → Type 0
OfBytes env None outcome = outcome ≡ Err (is_at 0 ItIsTooLarge)
OfBytes env (Some bytes) outcome = IsSource env bytes outcome

-- the outcome of a package's file: its source or its fault
abbrev pub Comes : Env → Content → Result Source At → Type 0
Comes env content outcome = OfBytes env (bytes_in content) outcome
