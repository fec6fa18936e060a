-- Lines that a reader of JSON reads as a value.
use Rattle.std.specs.Prelude.{◌≡◌, ◌≤◌, ℕ, false, List, Some}
use Rattle.serde_json.specs.Data.{Data, depth}
use Rattle.serde_json.specs.Read.{max_depth, read}
use Rattle.serde_json.specs.Written.{has_float}
use Rattle.plan_json.specs.Texts.{line}

-- a text with a line feed, which reads as the value without it
abbrev pub ReadsAs : Data → List ℕ → Type 0
ReadsAs value whole = (text : List ℕ) × (whole ≡ line text) × (read text ≡ Some value)

-- The value has no fractions, whose digits aren't determined, and its depth is within the reader's limit.
pub record IsPlain (value : Data) : Type 0 where
  pub no_float : has_float value ≡ false
  pub shallow : depth value ≤ max_depth
