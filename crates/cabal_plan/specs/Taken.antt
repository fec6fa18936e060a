-- The state of a sink.
use Rattle.std.specs.Prelude.{ℕ, Option}
use Rattle.outside_folder.specs.Files.{Bytes}

-- the bytes of a sink, if it is observable, and its count of faults
pub record SinkState : Type 0 where
  pub bytes : Option Bytes
  pub faults : ℕ

abbrev pub sink_state : {S : Type 0} → (S → Option Bytes) → (S → ℕ) → S → SinkState
sink_state bytes faults sink = record { bytes = bytes sink; faults = faults sink }
