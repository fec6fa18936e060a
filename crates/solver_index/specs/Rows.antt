-- Rows kept by index.
use Rattle.std.specs.Prelude.{◌≡◌, ℕ, List, length, Some, slice_get}

-- n rows, each of which fits its index
pub record AreRows {X : Type 0} (n : ℕ) (Fits : ℕ → X → Type 0) (rows : List X) : Type 0 where
  pub count : length rows ≡ n
  pub each : (k : ℕ) (row : X) → slice_get rows k ≡ Some row → Fits k row
