-- The dependencies of a description on other packages, by paths.
use Rattle.std.specs.Prelude.{ℕ, Bool, true, not, nat_lt, Option, List, [], ◌∷◌, ◌++◌, length, map, filter, find, flat_map}
use Rattle.std.specs.Option.{option_map}
use Rattle.plan_types.specs.declared.condition.Env.{Env}
use Rattle.plan_types.specs.declared.condition.FlagSet.{FlagSet}
use Rattle.plan_types.specs.declared.dependency.Dep.{Dep}
use Rattle.plan_types.specs.declared.description.CompKind.{CompKind}
use Rattle.plan_types.specs.declared.description.CompKind.TheVariants.{Library, Executable, Test, Bench, Foreign}
use Rattle.plan_types.specs.declared.description.Component.{Component}
use Rattle.plan_types.specs.declared.description.Description.{Description}
use Rattle.plan_types.specs.Guarded.{GuardedDep}
use Rattle.plan_types.specs.declared.index.FlatDep.{FlatDep}
use Rattle.plan_types.specs.declared.index.Literal.{Literal}
use Rattle.plan_types.specs.declared.index.PartName.TheVariants.{Flag, Tests, Benches}
use Rattle.conditionals.specs.Paths.{Path, paths_of, clean_paths}
use Rattle.flatten.specs.WholeCondition.{whole_condition}

-- a dependency on another package, with its component
pub record ExternalDep : Type 0 where
  pub component : Component
  pub guarded : GuardedDep

-- such a dependency of a component
abbrev pub outward_of : Component → GuardedDep → ExternalDep
outward_of component guarded = record { component = component; guarded = guarded }

-- the dependencies that aren't internal
abbrev pub external : List GuardedDep → List GuardedDep
external = filter (λ guarded. not guarded.dep.internal)

-- those of these dependencies that are on other packages, with their component
abbrev pub outward_among : Component → List GuardedDep → List ExternalDep
outward_among component deps = map (outward_of component) (external deps)

-- all dependencies of a component on other packages
abbrev pub outward_in : Component → List ExternalDep
outward_in component = outward_among component component.build.deps

-- all dependencies on other packages, in file order of the components
abbrev pub outward : Description → List ExternalDep
outward d = flat_map outward_in d.components

-- all paths under which a dependency counts, contradictory ones too
abbrev pub paths_at : Env → ExternalDep → List Path
paths_at env at = paths_of env (whole_condition at.component at.guarded) true

-- the stanza that has to be on for a component of this kind to be built
abbrev pub stanza_of : CompKind → List Literal
stanza_of Library = []
stanza_of Executable = []
stanza_of Test = record { part = Tests; on = true } ∷ []
stanza_of Bench = record { part = Benches; on = true } ∷ []
stanza_of Foreign = []

-- a flag with its value, as a literal
abbrev pub literal_of : FlagSet → Literal
literal_of setting = record { part = Flag setting.name; on = setting.on }

-- a dependency under one path
abbrev pub flat_of : CompKind → Dep → Path → FlatDep
flat_of kind dep path = record { when = stanza_of kind ++ map literal_of path; dep = dep }

-- the demands of a dependency, one for each path that isn't contradictory
abbrev pub demands_at : Env → ExternalDep → List FlatDep
demands_at env at = map (flat_of at.component.kind at.guarded.dep) (clean_paths (paths_at env at))

-- the demands of a description
abbrev pub demands_of : Env → Description → List FlatDep
demands_of env d = flat_map (demands_at env) (outward d)

-- whether a dependency has more than 256 paths
abbrev pub has_too_many_paths : Env → ExternalDep → Bool
has_too_many_paths env at = nat_lt 256 (length (paths_at env at))

-- the line of the first dependency with too many paths
abbrev pub first_among : Env → List ExternalDep → Option ℕ
first_among env all = option_map (λ at. at.guarded.dep.line) (find (has_too_many_paths env) all)

-- the line of the first dependency of a description with too many paths
abbrev pub first_with_too_many_paths : Env → Description → Option ℕ
first_with_too_many_paths env d = first_among env (outward d)
