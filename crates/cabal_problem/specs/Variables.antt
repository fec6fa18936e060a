-- The variables of an index, and how many values each has.
use Rattle.std.specs.Prelude.{ℕ, Bool, true, false, not, ◌&&◌, nat_eq, nat_lt, List, length}
use Rattle.std.specs.List.{list_any}
use Rattle.plan_types.specs.declared.dependency.DepKind.{DepKind}
use Rattle.plan_types.specs.declared.dependency.DepKind.TheVariants.{Library, Tool, Setup as SetupDep}
use Rattle.plan_types.specs.declared.description.CompKind.{CompKind}
use Rattle.plan_types.specs.declared.description.CompKind.TheVariants as kind
use Rattle.plan_types.specs.declared.dependency.Dep.{Dep}
use Rattle.plan_types.specs.declared.description.Component.{Component}
use Rattle.plan_types.specs.declared.description.Description.{Description}
use Rattle.plan_types.specs.declared.index.Body.{Body}
use Rattle.plan_types.specs.declared.index.Body.TheVariants.{Source, Installed}
use Rattle.plan_types.specs.declared.index.Package.{Package}
use Rattle.qualified_goals.specs.declared.variable.Qual.{Qual}
use Rattle.qualified_goals.specs.declared.variable.Qual.TheVariants.{Top, Setup, Exe}
use Rattle.qualified_goals.specs.declared.variable.Part.{Part}
use Rattle.qualified_goals.specs.declared.variable.Part.TheVariants.{Package as ThePackage, Flag, Tests, Benches}
use Rattle.qualified_goals.specs.declared.variable.Var.{Var}
use Rattle.qualified_goals.specs.Names.{NameTable, number_of}
use Rattle.constraint_set.specs.Bars.{is_number}
use Rattle.plan_types.specs.Packages.{declared_by, entries_of, package_at}

-- ---- qualifiers

-- whether a qualifier is top level
abbrev pub is_top : Qual → Bool
is_top Top = true
is_top (Setup p) = false
is_top (Exe p t) = false

-- a source instance with a setup script of its own
abbrev pub is_custom : Body → Bool
is_custom (Source source) = source.description.custom
is_custom (Installed record_of needs) = false

-- whether a dependency is on a tool
abbrev pub is_tool : DepKind → Bool
is_tool Library = false
is_tool Tool = true
is_tool SetupDep = false

-- a dependency on an executable of the package with this number, not of the own package
abbrev pub is_tool_of : NameTable → ℕ → Dep → Bool
is_tool_of names t dep = not dep.internal && is_tool dep.kind && is_number (number_of names.packages dep.«package») t

-- whether a component depends on this tool
abbrev pub component_depends : NameTable → ℕ → Component → Bool
component_depends names t component = list_any (λ guarded. is_tool_of names t guarded.dep) component.build.deps

-- whether a source instance depends on this tool, under any condition
abbrev pub depends_on_tool : NameTable → ℕ → Body → Bool
depends_on_tool names t (Source source) = list_any (component_depends names t) source.description.components
depends_on_tool names t (Installed record_of needs) = false

-- the qualifiers: top level, the setups of packages with a setup script, and the tools that a package depends on
abbrev pub is_qual : List Package → NameTable → Qual → Bool
is_qual packages names Top = true
is_qual packages names (Setup p) = list_any (λ e. is_custom e.body) (entries_of packages p)
is_qual packages names (Exe p t) = list_any (λ e. depends_on_tool names t e.body) (entries_of packages p)

-- ---- parts

-- whether an instance declares the flag with a number
abbrev pub declares : NameTable → ℕ → Body → Bool
declares names f body = list_any (λ decl. is_number (number_of names.flags decl.name) f) (declared_by body)

-- an answer for test suites and one for benchmarks; for all other components it is no
abbrev pub by_stanza : Bool → Bool → CompKind → Bool
by_stanza suite benchmark kind.Library = false
by_stanza suite benchmark kind.Executable = false
by_stanza suite benchmark kind.Test = suite
by_stanza suite benchmark kind.Bench = benchmark
by_stanza suite benchmark kind.Foreign = false

-- whether a component is a test suite
abbrev pub is_suite : CompKind → Bool
is_suite = by_stanza true false

-- whether a component is a benchmark
abbrev pub is_benchmark : CompKind → Bool
is_benchmark = by_stanza false true

-- whether a description has a component of this kind
abbrev pub has_kind : (CompKind → Bool) → Description → Bool
has_kind is_wanted d = list_any (λ component. is_wanted component.kind) d.components

-- whether an instance has a component of this kind
abbrev pub body_has_kind : (CompKind → Bool) → Body → Bool
body_has_kind is_wanted (Source source) = has_kind is_wanted source.description
body_has_kind is_wanted (Installed record_of needs) = false

-- the parts: the package, the flags that its instances declare, and at top level the stanzas of a local package
abbrev pub is_part : NameTable → Qual → Package → Part → Bool
is_part names q p ThePackage = true
is_part names q p (Flag f) = list_any (λ e. declares names f e.body) p.entries
is_part names q p Tests = is_top q && p.local && list_any (λ e. body_has_kind is_suite e.body) p.entries
is_part names q p Benches = is_top q && p.local && list_any (λ e. body_has_kind is_benchmark e.body) p.entries

-- ---- variables

-- whether a variable is one of the index
abbrev pub is_known : List Package → NameTable → Var → Bool
is_known packages names v =
    is_qual packages names v.qual && (nat_lt v.«package» (length packages) && is_part names v.qual (package_at packages v.«package») v.part)

-- the number of values: the instances of a package; two for a flag or a stanza
abbrev pub domain_of : List Package → ℕ → Part → ℕ
domain_of packages p ThePackage = length (entries_of packages p)
domain_of packages p (Flag f) = 2
domain_of packages p Tests = 2
domain_of packages p Benches = 2

-- whether a value of a flag or a stanza is on
abbrev pub is_on : ℕ → Bool
is_on n = nat_eq n 1
