-- The listed demands: the roots, and those of each choice in their order. A dependency has one for each path of its
-- condition.
use Rattle.std.specs.Prelude.{ℕ, Bool, true, false, not, ◌&&◌, ◌||◌, List, [], ◌∷◌, ◌++◌, length, map, filter, slice_index_or}
use Rattle.std.specs.List.{list_all}
use Rattle.plan_types.specs.declared.dependency.Dep.{Dep}
use Rattle.plan_types.specs.declared.dependency.DepKind.{DepKind}
use Rattle.plan_types.specs.declared.dependency.DepKind.TheVariants as kind
use Rattle.plan_types.specs.declared.dependency.Named.{Named}
use Rattle.plan_types.specs.declared.description.Description.{Description}
use Rattle.plan_types.specs.declared.description.FlagDecl.{FlagDecl}
use Rattle.plan_types.specs.declared.index.Body.{Body}
use Rattle.plan_types.specs.declared.index.Body.TheVariants.{Source, Installed}
use Rattle.plan_types.specs.declared.index.Entry.{Entry}
use Rattle.plan_types.specs.declared.index.FlatDep.{FlatDep}
use Rattle.plan_types.specs.declared.index.Literal.{Literal}
use Rattle.plan_types.specs.declared.index.Package.{Package}
use Rattle.plan_types.specs.declared.index.PartName.{PartName}
use Rattle.plan_types.specs.declared.index.PartName.TheVariants as literal
use Rattle.plan_types.specs.declared.project.Project.{Project}
use Rattle.plan_types.specs.declared.version.Version.{Version}
use Rattle.conditionals.specs.Paths.{is_same}
use Rattle.qualified_goals.specs.declared.variable.Qual.{Qual}
use Rattle.qualified_goals.specs.declared.variable.Qual.TheVariants.{Top, Setup, Exe}
use Rattle.qualified_goals.specs.declared.variable.Part.{Part}
use Rattle.qualified_goals.specs.declared.variable.Part.TheVariants.{Package as ThePackage, Flag, Tests, Benches}
use Rattle.qualified_goals.specs.declared.variable.Var.{Var}
use Rattle.qualified_goals.specs.Names.{Name, NameTable}
use Rattle.choice_problem.specs.declared.problem.Choice.{Choice}
use Rattle.choice_problem.specs.declared.problem.Demand.{Demand}
use Rattle.constraint_set.specs.Bars.{names_flag}
use Rattle.solver_index.specs.Places.{rising, entry_at, number, flag_number}
use Rattle.solver_index.specs.Dependencies.{bit, part_of}
use Rattle.solver_index.specs.AllowedVersions.{allowed_versions}
use Rattle.cabal_problem.specs.Variables.{is_top, has_kind, is_suite, is_benchmark}
use Rattle.cabal_problem.specs.Values.{package_var}
use Rattle.solver_index.specs.Allowed.{allowed_by, allowed_in, allowed_unit}
use Rattle.plan_types.specs.Packages.{entries_of, package_at}

-- ---- what all demands of a choice share

-- a part of the owner's package, under its qualifier
abbrev pub part_beside : Choice → Part → Var
part_beside owner part = record { qual = owner.var.qual; «package» = owner.var.«package»; part = part }

-- the qualifier under which the package of the owner's dependency is chosen
abbrev pub qual_for : DepKind → Var → ℕ → Qual
qual_for kind.Library owner t = owner.qual
qual_for kind.Tool owner t = Exe owner.«package» t
qual_for kind.Setup owner t = Setup owner.«package»

-- the variable of the package that a dependency is on
abbrev pub target_for : List Package → NameTable → Var → DepKind → Name → Var
target_for packages names owner kind name = package_var (qual_for kind owner (number packages names name)) (number packages names name)

-- the demand of a dependency under this condition
abbrev pub dep_demand : List Package → NameTable → Choice → List Choice → DepKind → (Version → Bool) → Dep → Demand
dep_demand packages names owner when kind allows dep = record {
  when = when;
  target = target_for packages names owner.var kind dep.«package»;
  allowed = allowed_by kind allows dep (entries_of packages (number packages names dep.«package»));
}

-- ---- flags and stanzas

-- A manual flag may have its default, and the values that constraints on the package require.
abbrev pub flag_allows : Project → NameTable → Var → FlagDecl → Bool → Bool
flag_allows project names v decl on = (not decl.manual || is_same decl.default on) || names_flag project names v on

-- a value, if it is allowed
abbrev pub one_if : Bool → ℕ → List ℕ
one_if true n = n ∷ []
one_if false n = []

-- the values that a flag may have
abbrev pub flag_values : Project → NameTable → Var → FlagDecl → List ℕ
flag_values project names v decl = one_if (flag_allows project names v decl false) 0 ++ one_if (flag_allows project names v decl true) 1

-- the demand on a flag, once an instance of its package is chosen
abbrev pub flag_demand : Project → NameTable → Choice → FlagDecl → Demand
flag_demand project names owner decl =
    let v = part_beside owner (Flag (flag_number names decl.name)) in
    record { when = owner ∷ []; target = v; allowed = flag_values project names v decl }

-- the demand on a stanza, once an instance of its package is chosen
abbrev pub stanza_demand : Choice → Part → Demand
stanza_demand owner stanza = record { when = owner ∷ []; target = part_beside owner stanza; allowed = 0 ∷ 1 ∷ [] }

-- the same if the package has the stanza
abbrev pub stanza_if : Bool → Choice → Part → List Demand
stanza_if true owner stanza = stanza_demand owner stanza ∷ []
stanza_if false owner stanza = []

-- whether the stanzas of the owner's package have variables
abbrev pub has_stanzas : List Package → Var → Bool
has_stanzas packages owner = is_top owner.qual && (package_at packages owner.«package»).local

-- ---- dependencies

-- a literal as a choice beside the owner
abbrev pub choice_beside : NameTable → Choice → Literal → Choice
choice_beside names owner literal = record { var = part_beside owner (part_of names literal.part); val = bit literal.on }

-- the owner, with the literals of a path as choices
abbrev pub when_of : NameTable → Choice → List Literal → List Choice
when_of names owner literals = owner ∷ map (choice_beside names owner) literals

-- a literal on a stanza needs a variable of that stanza
abbrev pub has_part : Bool → PartName → Bool
has_part stanzas (literal.Flag name) = true
has_part stanzas literal.Tests = stanzas
has_part stanzas literal.Benches = stanzas

-- whether all parts in a dependency's condition have variables
abbrev pub can_count : Bool → FlatDep → Bool
can_count stanzas flat = list_all (λ literal. has_part stanzas literal.part) flat.when

-- the demand of a dependency, under the owner and its path
abbrev pub flat_demand : List Package → NameTable → Choice → (Dep → Version → Bool) → FlatDep → Demand
flat_demand packages names owner allows flat = dep_demand packages names owner (when_of names owner flat.when) flat.dep.kind (allows flat.dep) flat.dep

-- the demands of all dependencies that can count
abbrev pub flat_demands : List Package → NameTable → Choice → (Dep → Version → Bool) → List FlatDep → List Demand
flat_demands packages names owner allows flats = map (flat_demand packages names owner allows) (filter (can_count (has_stanzas packages owner.var)) flats)

-- the demand of a setup dependency
abbrev pub setup_demand : List Package → NameTable → Choice → (Dep → Version → Bool) → Dep → Demand
setup_demand packages names owner allows dep = dep_demand packages names owner (owner ∷ []) kind.Setup (allows dep) dep

-- the demands of all setup dependencies
abbrev pub setup_demands : List Package → NameTable → Choice → (Dep → Version → Bool) → List Dep → List Demand
setup_demands packages names owner allows deps = map (setup_demand packages names owner allows) deps

-- the same if the instance has a setup script of its own
abbrev pub setup_if : Bool → List Demand → List Demand
setup_if true demands = demands
setup_if false demands = []

-- a unit needs the unit with this id, of the package named beside it
abbrev pub unit_demand_on : List Package → NameTable → Choice → Name → Name → Demand
unit_demand_on packages names owner id need = record {
  when = owner ∷ [];
  target = package_var owner.var.qual (number packages names need);
  allowed = allowed_unit id (package_at packages (number packages names need));
}

-- the demand on the k-th unit that a record needs
abbrev pub unit_demand : List Package → NameTable → Choice → List Name → List Name → ℕ → Demand
unit_demand packages names owner ids needs k = unit_demand_on packages names owner (slice_index_or ids k []) (slice_index_or needs k [])

-- the demands on all units that a record needs
abbrev pub unit_demands : List Package → NameTable → Choice → List Name → List Name → List Demand
unit_demands packages names owner ids needs = map (unit_demand packages names owner ids needs) (rising (length needs))

-- ---- a choice

-- the demands of a chosen source instance
abbrev pub source_demands : List Package → Project → NameTable → Choice → (Dep → Version → Bool) → Description → List FlatDep → List Demand
source_demands packages project names owner allows d flats =
    map (flag_demand project names owner) d.flags
    ++ stanza_if (has_stanzas packages owner.var && has_kind is_suite d) owner Tests
    ++ stanza_if (has_stanzas packages owner.var && has_kind is_benchmark d) owner Benches
    ++ flat_demands packages names owner allows flats
    ++ setup_if d.custom (setup_demands packages names owner allows d.setup)

-- the demands of a chosen instance with this body
abbrev pub body_demands : List Package → Project → NameTable → Choice → (Dep → Version → Bool) → Body → List Demand
body_demands packages project names owner allows (Source source) = source_demands packages project names owner allows source.description source.flat
body_demands packages project names owner allows (Installed record_of needs) = unit_demands packages names owner record_of.depends needs

-- the demands of the chosen instance of an entry
abbrev pub entry_demands : List Package → Project → NameTable → Choice → Entry → List Demand
entry_demands packages project names owner e = body_demands packages project names owner (allowed_versions project e.instance) e.body

-- choices of flags and stanzas have no demands
abbrev pub part_demands : List Demand → Part → List Demand
part_demands demands ThePackage = demands
part_demands demands (Flag f) = []
part_demands demands Tests = []
part_demands demands Benches = []

-- the demands of a choice
abbrev pub demands_of : List Package → Project → NameTable → Choice → List Demand
demands_of packages project names owner =
    part_demands (entry_demands packages project names owner (entry_at (entries_of packages owner.var.«package») owner.val)) owner.var.part

-- ---- roots

-- the demand on a local package, which allows all instances
abbrev pub local_root : List Package → ℕ → Demand
local_root packages p = record { when = []; target = package_var Top p; allowed = rising (length (entries_of packages p)) }

-- the demands on all local packages
abbrev pub local_roots : List Package → List Demand
local_roots packages = map (local_root packages) (filter (λ p. (package_at packages p).local) (rising (length packages)))

-- the demand on an extra package, which allows the instances in its range
abbrev pub extra_root : List Package → NameTable → Named → Demand
extra_root packages names extra = record {
  when = [];
  target = package_var Top (number packages names extra.name);
  allowed = allowed_in extra.range (entries_of packages (number packages names extra.name));
}

-- the roots: the demands on local packages, then those on extra ones
abbrev pub roots_of : List Package → Project → NameTable → List Demand
roots_of packages project names = local_roots packages ++ map (extra_root packages names) project.extra
