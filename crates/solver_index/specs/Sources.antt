-- The input of the tables.
use Rattle.std.specs.Prelude.{◌≡◌, Bool, true, List, length, map}
use Rattle.plan_types.specs.declared.dependency.Dep.{Dep}
use Rattle.plan_types.specs.declared.dependency.DepKind.{DepKind}
use Rattle.plan_types.specs.declared.description.Description.{Description}
use Rattle.plan_types.specs.declared.index.Body.{Body}
use Rattle.plan_types.specs.declared.index.Entry.{Entry}
use Rattle.plan_types.specs.declared.index.FlatDep.{FlatDep}
use Rattle.plan_types.specs.declared.index.Instance.{Instance}
use Rattle.plan_types.specs.declared.range.Range.{Range}
use Rattle.plan_types.specs.declared.version.Version.{Version}
use Rattle.version_range.specs.Cuts.{HasNumbers, inside}
use Rattle.constraint_set.specs.Stands.{Represents}
use Rattle.qualified_goals.specs.Names.{Name}
use Rattle.solver_index.specs.declared.dependencies.ConditionalDep.{ConditionalDep}
use Rattle.solver_index.specs.declared.dependencies.Dependencies.{Dependencies}
use Rattle.solver_index.specs.declared.dependencies.UnitNeed.{UnitNeed}
use Rattle.solver_index.specs.declared.dependencies.Target.{Target}
use Rattle.solver_index.specs.declared.sources.Sources.{Sources}
use Rattle.solver_index.specs.AllowedVersions.{allowed_versions}
use Rattle.solver_index.specs.Dependencies.{body_dependencies, conditional_dep, dep_target, entry_dependencies, need_at, need_of, source_dependencies}
use Rattle.solver_index.specs.Places.{rising}
use Rattle.solver_index.specs.Allowed.{allowed_for}
use Rattle.solver_index.specs.Blocks.{AllAreInBlocks}
use Rattle.solver_index.specs.Units.{AreUnits}
use Rattle.solver_index.specs.Versions.{packages_have_versions}

-- on versions with numbers, being inside the cuts is being allowed by a dependency of a kind
abbrev pub AreAllowed : DepKind → (Version → Bool) → Range → List Version → Type 0
AreAllowed kind allows range cuts = (v : Version) → HasNumbers v → inside cuts v ≡ allowed_for kind allows range v

-- the target of a dependency of an instance
abbrev pub target_in : Sources → Instance → DepKind → Dep → Target
target_in s owner = dep_target s.packages.now s.names.now (allowed_versions s.project.now owner)

-- a dependency of an instance, and the settings under which it counts
abbrev pub dep_in : Sources → Instance → FlatDep → ConditionalDep
dep_in s owner = conditional_dep s.packages.now s.names.now (allowed_versions s.project.now owner)

-- the unit with an id, of the package with a name
abbrev pub need_in : Sources → Name → Name → UnitNeed
need_in s = need_of s.packages.now s.names.now

-- the units with these ids
abbrev pub needs_in : Sources → List Name → List Name → List UnitNeed
needs_in s ids names = map (need_at s.packages.now s.names.now ids names) (rising (length names))

-- what a source instance depends on
abbrev pub source_in : Sources → Instance → Description → List FlatDep → Dependencies
source_in s owner = source_dependencies s.packages.now s.names.now (allowed_versions s.project.now owner)

-- what an instance with this body depends on
abbrev pub body_in : Sources → Instance → Body → Dependencies
body_in s owner = body_dependencies s.packages.now s.names.now (allowed_versions s.project.now owner)

-- what the instance of an entry depends on
abbrev pub entry_in : Sources → Entry → Dependencies
entry_in s = entry_dependencies s.packages.now s.project.now s.names.now

-- the constraints and units are those of the project and the packages; versions are well-formed, instances in blocks
pub record AreReady (s : Sources) : Type 0 where
  pub stands : Represents s.project.now s.names.now s.constraints.now
  pub units : AreUnits s.packages.now (length s.packages.now) s.units
  pub versions : packages_have_versions s.packages.now ≡ true
  pub blocks : AllAreInBlocks s.packages.now
