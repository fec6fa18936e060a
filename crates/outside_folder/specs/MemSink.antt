-- A sink in memory.
use Rattle.std.specs.Prelude.{◌≡◌, ℕ, ◌-◌, min, Bool, List, length}
use Rattle.outside_folder.specs.declared.mem_sink.MemSink.{MemSink}
use Rattle.outside_folder.specs.Faults.{fails_next}

-- the bytes written to a sink in memory
abbrev pub written_bytes : MemSink → List ℕ
written_bytes sink = sink.written.items

-- the capacity of the sink in bytes
abbrev pub sink_room : MemSink → ℕ
sink_room sink = sink.room

-- the largest number of bytes that a write takes
abbrev pub sink_most : MemSink → ℕ
sink_most sink = sink.most

-- the numbers of the writes that are to fail
abbrev pub sink_fail_at : MemSink → List ℕ
sink_fail_at sink = sink.fail_at

-- the number of writes so far
abbrev pub sink_writes : MemSink → ℕ
sink_writes sink = sink.writes

-- the number of its writes that have failed
abbrev pub sink_faults : MemSink → ℕ
sink_faults sink = sink.faults

-- whether the next write is to fail
abbrev pub number_fails : MemSink → Bool
number_fails sink = fails_next sink.fail_at sink.writes

-- the number of bytes of a piece that the next write can take
abbrev pub taken_of : MemSink → List ℕ → ℕ
taken_of sink piece = min (min (length piece) sink.most) (sink.room - length sink.written.items)

-- the bytes, the limits and the writes to fail are unchanged
pub record keeps (old new : MemSink) : Type 0 where
  pub written : new.written ≡ old.written
  pub room : new.room ≡ old.room
  pub most : new.most ≡ old.most
  pub fail_at : new.fail_at ≡ old.fail_at
