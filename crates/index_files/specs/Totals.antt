-- Limits on the records and releases that are read.
use Rattle.std.specs.Prelude.{ℕ, nat_lt, Bool, ◌||◌}

-- more than 20,000 files, or more than 268,435,456 bytes in them together
abbrev pub is_too_many : ℕ → ℕ → Bool
is_too_many files bytes = nat_lt 20000 files || nat_lt 268435456 bytes
