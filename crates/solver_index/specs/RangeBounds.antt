-- Places at which instances enter or leave a range.
use Rattle.std.specs.Prelude.{◌≡◌, ℕ, ◌<◌, ◌≤◌, Bool, true, false, List, ◌++◌, Contains}
use Rattle.plan_types.specs.Members.{members}
use Rattle.plan_types.specs.declared.index.Entry.{Entry}
use Rattle.plan_types.specs.declared.range.Range.{Range}
use Rattle.plan_types.specs.declared.version.Version.{Version}
use Rattle.version_range.specs.Cuts.{HasNumbers, inside, is_below}
use Rattle.solver_index.specs.Before.{before}
use Rattle.solver_index.specs.Blocks.{version_at}

-- membership is constant on the versions from v up to w
abbrev pub IsConstant : (Version → Bool) → Version → Version → Type 0
IsConstant has v w = (u : Version) → HasNumbers u → is_below u v ≡ false → is_below w u ≡ false → has u ≡ has v

-- the test f is equal at two versions wherever membership is constant from one up to the other
abbrev pub IsConstantWhere : (Version → Bool) → (Version → Bool) → Type 0
IsConstantWhere has f = (v w : Version) → HasNumbers v → HasNumbers w → is_below w v ≡ false → IsConstant has v w → f v ≡ f w

-- no bound lies behind place a and at or before place b
abbrev pub HasNoBound : List ℕ → ℕ → ℕ → Type 0
HasNoBound bounds a b = (t : ℕ) → Contains bounds t → a < t → b < t

-- where no bound lies between two places, their versions are both inside the cuts or both outside
abbrev pub AreUniform : List Version → List ℕ → List Entry → ℕ → ℕ → Type 0
AreUniform cuts bounds entries from to =
    (a b : ℕ) → from ≤ a → a ≤ b → b < to → HasNoBound bounds a b → inside cuts (version_at entries a) ≡ inside cuts (version_at entries b)

-- the versions from one place up to another are all inside the cuts or all outside
abbrev pub IsUniform : List Version → List Entry → ℕ → ℕ → Type 0
IsUniform cuts entries first last = (i : ℕ) → first ≤ i → i < last → inside cuts (version_at entries first) ≡ inside cuts (version_at entries i)

-- the members of an operator are an interval, and `before` holds for the versions below it
pub record IsOperator (range : Range) : Type 0 where
  pub outside : (v : Version) → HasNumbers v → before range v ≡ true → members range v ≡ false
  pub front : (u w : Version) → HasNumbers u → HasNumbers w → is_below w u ≡ false → before range w ≡ true → before range u ≡ true
  pub down : (u w : Version) → HasNumbers u → HasNumbers w → before range u ≡ false → is_below w u ≡ false → members range w ≡ true → members range u ≡ true

-- more bounds are appended; membership is constant between them
pub record AreBounds (has : Version → Bool) (entries : List Entry) (from to : ℕ) (old new : List ℕ) : Type 0 where
  pub more : List ℕ
  pub extends : new ≡ old ++ more
  pub within : (t : ℕ) → Contains more t → (from ≤ t) × (t ≤ to)
  pub constant : (a b : ℕ) → from ≤ a → a ≤ b → b < to → HasNoBound more a b → IsConstant has (version_at entries a) (version_at entries b)

-- the same, where membership in the rest of the range is constant between them
pub record AreBoundsBut (has rest : Version → Bool) (entries : List Entry) (from to : ℕ) (old new : List ℕ) : Type 0 where
  pub more : List ℕ
  pub extends : new ≡ old ++ more
  pub within : (t : ℕ) → Contains more t → (from ≤ t) × (t ≤ to)
  pub constant : (a b : ℕ) → from ≤ a → a ≤ b → b < to → HasNoBound more a b → IsConstant rest (version_at entries a) (version_at entries b) → IsConstant has (version_at entries a) (version_at entries b)
