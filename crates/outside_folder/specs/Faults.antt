-- Counts of faults.
use Rattle.std.specs.Prelude.{◌≡◌, ℕ, ◌+◌, ◌-◌, ◌^◌, min, Bool, ◌==◌, ◌&&◌, nat_lt, List, [], ◌∷◌}
use Rattle.std.specs.List.{list_any}

-- the count rose by one, or stays at its maximum
abbrev pub Rose : ℕ → ℕ → Type 0
Rose before now = now ≡ min (before + 1) (2 ^ 64 - 1)

-- the count rose by one on a failure, and is unchanged otherwise
pub record Counts (before now : ℕ) (failed : Type 0) : Type 0 where
  pub rose : failed → Rose before now
  pub still : (failed → ⊥) → now ≡ before

-- the count of calls after one more; it stays at its maximum
abbrev pub next_count : ℕ → ℕ
next_count calls = min (calls + 1) (2 ^ 64 - 1)

-- the largest possible count of faults: zero where no call is to fail
abbrev pub ceiling_of : List ℕ → ℕ
ceiling_of [] = 0
ceiling_of (n ∷ ns) = 2 ^ 64 - 1

-- whether a number is in a list
abbrev pub among : List ℕ → ℕ → Bool
among ns n = list_any (λ m. m == n) ns

-- whether the call after so many is one that is to fail; calls are counted up to 2^64 - 1
abbrev pub fails_next : List ℕ → ℕ → Bool
fails_next fail_at calls = nat_lt calls (2 ^ 64 - 1) && among fail_at (calls + 1)
