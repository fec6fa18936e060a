-- What each instance depends on, with names as numbers and ranges as places.
use Rattle.std.specs.Prelude.{ℕ, Bool, true, false, List, [], length, map, slice_index_or}
use Rattle.plan_types.specs.declared.dependency.Dep.{Dep}
use Rattle.plan_types.specs.declared.dependency.DepKind.{DepKind}
use Rattle.plan_types.specs.declared.dependency.DepKind.TheVariants as kind
use Rattle.plan_types.specs.declared.index.Body.{Body}
use Rattle.plan_types.specs.declared.index.Body.TheVariants.{Source, Installed}
use Rattle.plan_types.specs.declared.index.Entry.{Entry}
use Rattle.plan_types.specs.declared.index.FlatDep.{FlatDep}
use Rattle.plan_types.specs.declared.index.Literal.{Literal}
use Rattle.plan_types.specs.declared.index.Package.{Package}
use Rattle.plan_types.specs.declared.index.PartName.{PartName}
use Rattle.plan_types.specs.declared.index.PartName.TheVariants as literal
use Rattle.plan_types.specs.declared.project.Project.{Project}
use Rattle.plan_types.specs.declared.version.Version.{Version}
use Rattle.qualified_goals.specs.declared.variable.Part.{Part}
use Rattle.qualified_goals.specs.declared.variable.Part.TheVariants.{Flag, Tests, Benches}
use Rattle.qualified_goals.specs.Names.{Name, NameTable}
use Rattle.solver_index.specs.declared.dependencies.Dependencies.{Dependencies}
use Rattle.solver_index.specs.declared.dependencies.ConditionalDep.{ConditionalDep}
use Rattle.solver_index.specs.declared.dependencies.UnitNeed.{UnitNeed}
use Rattle.solver_index.specs.declared.dependencies.Setting.{Setting}
use Rattle.solver_index.specs.declared.dependencies.Target.{Target}
use Rattle.solver_index.specs.Allowed.{allowed_by, allowed_unit}
use Rattle.solver_index.specs.AllowedVersions.{allowed_versions}
use Rattle.solver_index.specs.Places.{rising, number, flag_number}
use Rattle.plan_types.specs.Packages.{entries_of, package_at}
use Rattle.plan_types.specs.declared.description.Description.{Description}

-- a flag's value as a number
abbrev pub bit : Bool → ℕ
bit true = 1
bit false = 0

-- a part of a package, a flag by its number
abbrev pub part_of : NameTable → PartName → Part
part_of names (literal.Flag name) = Flag (flag_number names name)
part_of names literal.Tests = Tests
part_of names literal.Benches = Benches

-- a literal as a setting by numbers
abbrev pub setting_of : NameTable → Literal → Setting
setting_of names l = record { part = part_of names l.part; val = bit l.on }

-- the package of a dependency, and the places of the instances that it allows
abbrev pub dep_target : List Package → NameTable → (Dep → Version → Bool) → DepKind → Dep → Target
dep_target packages names allows kind dep = record {
  «package» = number packages names dep.«package»;
  allowed = allowed_by kind (allows dep) dep (entries_of packages (number packages names dep.«package»));
}

-- a dependency, and the settings under which it counts
abbrev pub conditional_dep : List Package → NameTable → (Dep → Version → Bool) → FlatDep → ConditionalDep
conditional_dep packages names allows flat = record {
  when = map (setting_of names) flat.when;
  kind = flat.dep.kind;
  target = dep_target packages names allows flat.dep.kind flat.dep;
}

-- the unit with an id, of the package with a name
abbrev pub need_of : List Package → NameTable → Name → Name → UnitNeed
need_of packages names id name = record {
  «package» = number packages names name;
  allowed = allowed_unit id (package_at packages (number packages names name));
}

-- the k-th unit that a record needs
abbrev pub need_at : List Package → NameTable → List Name → List Name → ℕ → UnitNeed
need_at packages names ids needs k = need_of packages names (slice_index_or ids k []) (slice_index_or needs k [])

-- what a source instance depends on
abbrev pub source_dependencies : List Package → NameTable → (Dep → Version → Bool) → Description → List FlatDep → Dependencies
source_dependencies packages names allows d flats = record {
  flags = map (λ decl. flag_number names decl.name) d.flags;
  deps = map (conditional_dep packages names allows) flats;
  setup = map (dep_target packages names allows kind.Setup) d.setup;
  needs = [];
}

-- what an instance with this body depends on
abbrev pub body_dependencies : List Package → NameTable → (Dep → Version → Bool) → Body → Dependencies
body_dependencies packages names allows (Source source) = source_dependencies packages names allows source.description source.flat
body_dependencies packages names allows (Installed record_of needs) = record {
  flags = [];
  deps = [];
  setup = [];
  needs = map (need_at packages names record_of.depends needs) (rising (length needs));
}

-- what the instance of an entry depends on
abbrev pub entry_dependencies : List Package → Project → NameTable → Entry → Dependencies
entry_dependencies packages project names e = body_dependencies packages names (allowed_versions project e.instance) e.body

-- what each instance depends on, by package and instance
abbrev pub all_dependencies : List Package → Project → NameTable → List (List Dependencies)
all_dependencies packages project names = map (λ p. map (entry_dependencies packages project names) p.entries) packages
