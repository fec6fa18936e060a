-- The language of entries of a project's constraints.
use Rattle.std.specs.Prelude.{◌≡◌, ℕ, true, false, if◌then◌else◌, List, [], ◌∷◌, ◌++◌, map, codes, Option, Some, None}
use Rattle.std.specs.Char.{to_ascii_lowercase}
use Rattle.plan_types.specs.Bytes.{begins_with, same_text}
use Rattle.plan_types.specs.Name.{is_flag_name, is_package_name}
use Rattle.plan_types.specs.declared.condition.FlagSet.{FlagSet}
use Rattle.plan_types.specs.declared.constraint.Constraint.{Constraint}
use Rattle.plan_types.specs.declared.constraint.Scope.{Scope}
use Rattle.plan_types.specs.declared.constraint.Scope.TheVariants as scopes
use Rattle.plan_types.specs.declared.constraint.What.{What}
use Rattle.plan_types.specs.declared.constraint.What.TheVariants as what
use Rattle.plan_types.specs.declared.range.Range.{Range}
use Rattle.plan_types.specs.declared.range.Spec.TheVariants.{V3_0}
use Rattle.plan_types.specs.declared.refusal.Cause.{Cause}
use Rattle.version_range.specs.Grammar.{Stands}
use Rattle.entry_text.specs.Entries.{Each, HasEntries, HasFirstFault}
use Rattle.entry_text.specs.Words.{run, behind, is_name_byte, name_of, behind_name, words}
use Rattle.constraint_text.specs.Faults.{IsBadConstraint}

-- the scope of a word before a point
abbrev pub scope_of : List ℕ → Option Scope
scope_of name = if same_text name (codes "any") then Some scopes.Any else if same_text name (codes "setup") then Some scopes.Setup else None

-- The scope, the name of the package, and the rest. At top level neither a point nor a colon follows the name.
pub data Target (text : List ℕ) (scope : Scope) («package» rest : List ℕ) : Type 0 where
  top : begins_with 46 (behind_name text) ≡ false → begins_with 58 (behind_name text) ≡ false → scope ≡ scopes.Top
      → «package» ≡ name_of text → rest ≡ behind_name text → Target text scope «package» rest
  word : (more : List ℕ) → behind_name text ≡ codes "." ++ more → scope_of (name_of text) ≡ Some scope
      → «package» ≡ run is_name_byte more → rest ≡ behind is_name_byte more → Target text scope «package» rest
  setup_of : (more : List ℕ) → behind_name text ≡ codes ":setup." ++ more → is_package_name (name_of text) ≡ true → scope ≡ scopes.SetupOf (name_of text)
      → «package» ≡ run is_name_byte more → rest ≡ behind is_name_byte more → Target text scope «package» rest

-- the requirement of one word
abbrev pub required_by : List ℕ → Option What
required_by part =
    if same_text part (codes "installed") then Some what.Installed
    else if same_text part (codes "source") then Some what.Source
    else if same_text part (codes "test") then Some what.Tests
    else if same_text part (codes "bench") then Some what.Benches
    else None

-- a flag, on or off; its name is put in lower case
pub data Flag (word : List ℕ) (flag : FlagSet) : Type 0 where
  on : (name : List ℕ) → word ≡ codes "+" ++ name → is_flag_name name ≡ true → flag ≡ record { name = map to_ascii_lowercase name; on = true } → Flag word flag
  off : (name : List ℕ) → word ≡ codes "-" ++ name → is_flag_name name ≡ true → flag ≡ record { name = map to_ascii_lowercase name; on = false } → Flag word flag

-- the requirement of a single word
abbrev pub asked_alone : List (List ℕ) → Option What
asked_alone [] = None
asked_alone (part ∷ []) = required_by part
asked_alone (part ∷ next ∷ parts) = None

-- a word, or flags
pub data Required (parts : List (List ℕ)) (found : What) : Type 0 where
  alone : asked_alone parts ≡ Some found → Required parts found
  flags : (set : List FlagSet) → Each Flag parts set → found ≡ what.Flags set → Required parts found

-- The requirement of a text: a range if the text is one, else a word or flags. So blanks are any version, and `-any`
-- and `-none` alone are no flags.
pub data Requires (text : List ℕ) (found : What) : Type 0 where
  range : (r : Range) → Stands V3_0 64 text r → found ≡ what.Range r → Requires text found
  other : ((r : Range) → Stands V3_0 64 text r → ⊥) → Required (words text) found → Requires text found

-- a package in a scope, and its requirement
pub record ConstraintEntry (text : List ℕ) (found : Constraint) : Type 0 where
  pub rest : List ℕ
  pub target : Target text found.scope found.«package» rest
  pub form : is_package_name found.«package» ≡ true
  pub asks : Requires rest found.what

-- the constraints of `constraints`
abbrev pub Constraints : List ℕ → List Constraint → Type 0
Constraints = HasEntries ConstraintEntry

-- the fault of such a text
abbrev pub ConstraintsFault : List ℕ → Cause → Type 0
ConstraintsFault = HasFirstFault ConstraintEntry (IsBadConstraint ConstraintEntry)
