-- Branches by the numbers of their conditions in a table.
use Rattle.std.specs.Prelude.{◌≡◌, ℕ, List, [], ◌∷◌, ◌++◌, Option, None, Some, slice_get, unwrap_or}
use Rattle.plan_types.specs.declared.condition.Cond.{Cond}
use Rattle.section_syntax.specs.Branch.{all_of, with_chain}
use Rattle.section_syntax.specs.declared.branch.Branch.{Branch}
use Rattle.package_declarations.specs.declared.branches.Level.{Level}

-- the table has grown at its end
abbrev pub Grown : List Cond → List Cond → Type 0
Grown before after = (more : List Cond) × (after ≡ before ++ more)

-- the number of an optional condition
abbrev pub IsNumbered : List Cond → Option ℕ → Option Cond → Type 0
IsNumbered conds None None = Unit {0}
IsNumbered conds None (Some cond) = ⊥
IsNumbered conds (Some number) None = ⊥
IsNumbered conds (Some number) (Some cond) = slice_get conds number ≡ Some cond

-- the number of `left && cond`, or of `cond` alone, in the grown table
abbrev pub IsConjunction : List Cond → List Cond → Option ℕ → ℕ → ℕ → Type 0
IsConjunction before after front last number = (left : Option Cond) (cond : Cond)
    → IsNumbered before front left → slice_get before last ≡ Some cond → slice_get after number ≡ Some (with_chain left cond)

-- a level has the condition and chain of a branch, without those around it
pub record IsBranch (conds : List Cond) (level : Level) (branch : Branch) : Type 0 where
  pub taken : slice_get conds level.taken ≡ Some branch.condition
  pub chain : IsNumbered conds level.chain branch.chain

-- the next branch of a chain; `left` is the condition that none so far is taken
abbrev pub IsNext : List Cond → List Cond → Option ℕ → (Option Cond → Branch) → Level → Type 0
IsNext before after chain branch level = (left : Option Cond) → IsNumbered before chain left → IsBranch after level (branch left)

-- a level has the condition that a branch and those around it are taken, and its chain
pub record IsLevel (conds around : List Cond) (level : Level) (branch : Branch) : Type 0 where
  pub taken : slice_get conds level.taken ≡ Some (all_of (around ++ branch.condition ∷ []))
  pub chain : IsNumbered conds level.chain branch.chain

-- the levels belong to these branches one by one, and each branch is inside the one before it
abbrev pub AreLevels : List Cond → List Cond → List Level → List Branch → Type 0
AreLevels conds around [] [] = Unit {0}
AreLevels conds around [] (branch ∷ branches) = ⊥
AreLevels conds around (level ∷ levels) [] = ⊥
AreLevels conds around (level ∷ levels) (branch ∷ branches) = IsLevel conds around level branch × AreLevels conds (around ++ branch.condition ∷ []) levels branches

-- the chain of an optional level
abbrev pub chain_of_level : Option Level → Option ℕ
chain_of_level None = None
chain_of_level (Some level) = level.chain

abbrev pub chain_at : List Level → ℕ → Option ℕ
chain_at levels depth = chain_of_level (slice_get levels depth)

-- the condition number of the innermost branch; none without branches
abbrev pub innermost_behind : ℕ → List Level → ℕ
innermost_behind number [] = number
innermost_behind number (level ∷ levels) = innermost_behind level.taken levels

abbrev pub innermost : List Level → Option ℕ
innermost [] = None
innermost (level ∷ levels) = Some (innermost_behind level.taken levels)

-- the number of the innermost condition; 0, which is `true`, without branches
abbrev pub number_at : List Level → ℕ
number_at levels = unwrap_or (innermost levels) 0
