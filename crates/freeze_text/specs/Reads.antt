-- Constraints whose text is read back as they are.
use Rattle.std.specs.Prelude.{◌≡◌, ℕ, Bool, true, false, not, ◌&&◌, ◌||◌, List, [], ◌∷◌, codes, Ok}
use Rattle.std.specs.List.{list_all, list_any}
use Rattle.plan_types.specs.declared.condition.Env.{Env}
use Rattle.plan_types.specs.declared.condition.FlagSet.{FlagSet}
use Rattle.plan_types.specs.declared.constraint.Constraint.{Constraint}
use Rattle.plan_types.specs.declared.constraint.Scope.{Scope}
use Rattle.plan_types.specs.declared.constraint.Scope.TheVariants.{Top, Any, Setup, SetupOf}
use Rattle.plan_types.specs.declared.constraint.What.{What}
use Rattle.plan_types.specs.declared.constraint.What.TheVariants as what
use Rattle.plan_types.specs.declared.project.Project.{Project}
use Rattle.plan_types.specs.declared.range.Range.TheVariants.{Equal}
use Rattle.plan_types.specs.declared.version.Version.{Version}
use Rattle.plan_types.specs.Bytes.{same_text}
use Rattle.plan_types.specs.Name.{is_flag_name, is_lower, is_package_name}
use Rattle.version_range.specs.Version.{is_version}
use Rattle.project_file.specs.Project.{project_from}
use Rattle.project_file.specs.Read.{IsProject}
use Rattle.project_file.specs.declared.read.ProjectText.{ProjectText}

-- whether a flag alone reads as a range: `-any` or `-none`
abbrev pub is_range_word : FlagSet → Bool
is_range_word set = not set.on && (same_text set.name (codes "any") || same_text set.name (codes "none"))

-- whether these read as flags after a name
abbrev pub are_flags : List FlagSet → Bool
are_flags [] = false
are_flags (set ∷ []) = not (is_range_word set)
are_flags (set ∷ next ∷ sets) = true

-- whether a flag's name is well-formed and in lower case
abbrev pub is_plain_flag : FlagSet → Bool
is_plain_flag set = is_flag_name set.name && is_lower set.name

-- whether the package of a scope has a well-formed name
abbrev pub is_plain_scope : Scope → Bool
is_plain_scope Top = true
is_plain_scope Any = true
is_plain_scope Setup = true
is_plain_scope (SetupOf owner) = is_package_name owner

-- a version, `installed`, `source`, or flags that don't read as a range
pub data IsPlain : What → Type 0 where
  version : (v : Version) → is_version v.parts ≡ true → IsPlain (what.Range (Equal v))
  installed : IsPlain what.Installed
  source : IsPlain what.Source
  flags : (sets : List FlagSet) → are_flags sets ≡ true → list_all is_plain_flag sets ≡ true → IsPlain (what.Flags sets)

-- a constraint with well-formed names, of such a form
pub record IsPlainConstraint (c : Constraint) : Type 0 where
  pub scope : is_plain_scope c.scope ≡ true
  pub name : is_package_name c.«package» ≡ true
  pub what : IsPlain c.what

-- a project with these constraints in place of its own
abbrev pub with_constraints : List Constraint → Project → Project
with_constraints constraints project = record project { constraints = constraints }

-- a project with these constraints and nothing else
abbrev pub project_with : List Constraint → Project
project_with constraints = with_constraints constraints (project_from [])

-- the first list has the constraints of the other two, in whatever order
abbrev pub IsUnion : List Constraint → List Constraint → List Constraint → Type 0
IsUnion union some others =
    (test : Constraint → Bool) → list_any test union ≡ list_any test some || list_any test others

-- a text, as the project file of any path, is read as exactly these constraints
abbrev pub IsReadAs : List ℕ → List Constraint → Type 0
IsReadAs text constraints =
    (env : Env) (path : List ℕ) → IsProject env (record { path = path; bytes = text } ∷ []) (Ok (project_with constraints))

-- a project file
abbrev pub text_at : List ℕ → List ℕ → ProjectText
text_at path bytes = record { path = path; bytes = bytes }

-- these files give a project with further constraints, and nothing else is changed
pub record Adds (env : Env) (texts : List ProjectText) (project : Project) (constraints : List Constraint) : Type 0 where
  pub all : List Constraint
  pub union : IsUnion all project.constraints constraints
  pub read : IsProject env texts (Ok (with_constraints all project))
