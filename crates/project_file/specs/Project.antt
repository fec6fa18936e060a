-- The project of the parts of all files.
use Rattle.std.specs.Prelude.{◌≡◌, ℕ, Bool, false, List, [], ◌∷◌, ◌++◌, map, flat_map, Option, Some, None, unwrap_or}
use Rattle.plan_types.specs.declared.constraint.Constraint.{Constraint}
use Rattle.plan_types.specs.declared.dependency.Named.{Named}
use Rattle.plan_types.specs.declared.dependency.Relax.{Relax}
use Rattle.plan_types.specs.declared.index.Warning.{Warning}
use Rattle.plan_types.specs.declared.limit.Limit.{Limit}
use Rattle.plan_types.specs.declared.limit.Limit.TheVariants.{At}
use Rattle.plan_types.specs.declared.project.Project.{Project}
use Rattle.plan_types.specs.declared.project.ProjectEntry.{ProjectEntry}
use Rattle.text_grammar.specs.Last.{last_given}
use Rattle.project_file.specs.declared.part.ProjectPart.{ProjectPart}
use Rattle.project_file.specs.declared.part.ProjectSaid.{ProjectSaid}
use Rattle.project_file.specs.declared.part.ProjectSaid.TheVariants as said
use Rattle.project_file.specs.declared.part.Switch.{Switch}
use Rattle.project_file.specs.declared.part.Switch.TheVariants.{Tests, Benchmarks, PreferOldest, BootInstalls}

-- a part with the path of its file
pub record Placed : Type 0 where
  pub path : List ℕ
  pub line : ℕ
  pub said : ProjectSaid

-- a part of the file at this path
abbrev pub placed_at : List ℕ → ProjectPart → Placed
placed_at path part = record { path = path; line = part.line; said = part.said }

-- all parts of that file
abbrev pub placed_all : List ℕ → List ProjectPart → List Placed
placed_all path parts = map (placed_at path) parts

-- the values that a part adds to a project
pub record Given : Type 0 where
  pub entries : List ProjectEntry
  pub extra : List Named
  pub constraints : List Constraint
  pub preferences : List Named
  pub newer : List Relax
  pub older : List Relax
  pub tests : Option Bool
  pub benchmarks : Option Bool
  pub limit : Option Limit
  pub prefer_oldest : Option Bool
  pub boot_installs : Option Bool
  pub warnings : List Warning

-- no values
abbrev pub nothing : Given
nothing = record {
  entries = [];
  extra = [];
  constraints = [];
  preferences = [];
  newer = [];
  older = [];
  tests = None;
  benchmarks = None;
  limit = None;
  prefer_oldest = None;
  boot_installs = None;
  warnings = [];
}

-- the entries of a field at a line
abbrev pub entries_at : List ℕ → ℕ → List (List ℕ) → Bool → List ProjectEntry
entries_at path line texts optional = map (λ text. record { path = path; line = line; text = text; optional = optional }) texts

-- the value of a switch
abbrev pub switched : Switch → Bool → Given
switched Tests on = record nothing { tests = Some on }
switched Benchmarks on = record nothing { benchmarks = Some on }
switched PreferOldest on = record nothing { prefer_oldest = Some on }
switched BootInstalls on = record nothing { boot_installs = Some on }

-- the values of some content at a line of a file
abbrev pub given_at : List ℕ → ℕ → ProjectSaid → Given
given_at path line (said.Entries texts optional) = record nothing { entries = entries_at path line texts optional }
given_at path line (said.Extra extra) = record nothing { extra = extra }
given_at path line (said.Constraints constraints) = record nothing { constraints = constraints }
given_at path line (said.Preferences preferences) = record nothing { preferences = preferences }
given_at path line (said.Newer relaxes) = record nothing { newer = relaxes }
given_at path line (said.Older relaxes) = record nothing { older = relaxes }
given_at path line (said.Switch which on) = switched which on
given_at path line (said.Limit limit) = record nothing { limit = Some limit }
given_at path line (said.Warning word) = record nothing { warnings = record { path = path; line = line; word = word } ∷ [] }
given_at path line (said.Bad cause) = nothing

-- the values of a part
abbrev pub given : Placed → Given
given part = given_at part.path part.line part.said

-- the last value that a part gives, or the default if none does
abbrev pub last_or : {A : Type 0} → A → (Given → Option A) → List Placed → A
last_or value of parts = unwrap_or (last_given (λ part. of (given part)) parts) value

-- the lists of all parts, joined in order
abbrev pub all : {A : Type 0} → (Given → List A) → List Placed → List A
all of parts = flat_map (λ part. of (given part)) parts

-- The project of these parts: lists add up over all files, and of single values the last counts.
abbrev pub project_from : List Placed → Project
project_from parts = record {
  entries = all (λ g. g.entries) parts;
  extra = all (λ g. g.extra) parts;
  constraints = all (λ g. g.constraints) parts;
  preferences = all (λ g. g.preferences) parts;
  newer = all (λ g. g.newer) parts;
  older = all (λ g. g.older) parts;
  tests = last_or false (λ g. g.tests) parts;
  benchmarks = last_or false (λ g. g.benchmarks) parts;
  limit = last_or (At 4000) (λ g. g.limit) parts;
  prefer_oldest = last_or false (λ g. g.prefer_oldest) parts;
  boot_installs = last_or false (λ g. g.boot_installs) parts;
  warnings = all (λ g. g.warnings) parts;
}

-- the project with a switch set
abbrev pub with_switch : Switch → Bool → Project → Project
with_switch Tests on old = record old { tests = on }
with_switch Benchmarks on old = record old { benchmarks = on }
with_switch PreferOldest on old = record old { prefer_oldest = on }
with_switch BootInstalls on old = record old { boot_installs = on }

-- the new project is the old one with these parts added
abbrev pub AddsParts : List Placed → Project → Project → Type 0
AddsParts parts old new = (before : List Placed) → old ≡ project_from before → new ≡ project_from (before ++ parts)
