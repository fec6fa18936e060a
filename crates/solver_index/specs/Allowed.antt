-- Which instances of a package a dependency allows.
use Rattle.std.specs.Prelude.{ℕ, Bool, true, false, ◌&&◌, List, [], Option, Some, None, slice_get}
use Rattle.std.specs.List.{list_any, list_all}
use Rattle.plan_types.specs.declared.dependency.Dep.{Dep}
use Rattle.plan_types.specs.declared.dependency.DepKind.{DepKind}
use Rattle.plan_types.specs.declared.dependency.DepKind.TheVariants.{Library, Tool, Setup}
use Rattle.plan_types.specs.declared.dependency.LibName.{LibName}
use Rattle.plan_types.specs.declared.dependency.LibName.TheVariants.{Main, Named}
use Rattle.plan_types.specs.declared.index.Body.{Body}
use Rattle.plan_types.specs.declared.index.Body.TheVariants.{Source, Installed}
use Rattle.plan_types.specs.declared.index.Entry.{Entry}
use Rattle.plan_types.specs.declared.index.Package.{Package}
use Rattle.plan_types.specs.declared.range.Range.{Range}
use Rattle.plan_types.specs.declared.version.Version.{Version}
use Rattle.plan_types.specs.Members.{members}
use Rattle.qualified_goals.specs.Names.{Name}
use Rattle.solver_index.specs.Places.{places}
use Rattle.plan_types.specs.Bytes.{same_text}
use Rattle.plan_types.specs.Packages.{is_installed}

-- whether two names of libraries are equal
abbrev pub is_lib : LibName → LibName → Bool
is_lib Main Main = true
is_lib Main (Named name) = false
is_lib (Named name) Main = false
is_lib (Named name) (Named other) = same_text name other

-- a source instance has the libraries that it exposes, an installed unit its main library alone
abbrev pub has_lib : Body → LibName → Bool
has_lib (Source source) lib = list_any (is_lib lib) source.exposed.libs
has_lib (Installed record_of needs) lib = is_lib lib Main

-- a source instance has the executables that it exposes, an installed unit none
abbrev pub has_exe : Body → Name → Bool
has_exe (Source source) exe = list_any (same_text exe) source.exposed.exes
has_exe (Installed record_of needs) exe = false

-- an instance of an allowed version, which has every named library
abbrev pub offers_libs : (Version → Bool) → List LibName → Entry → Bool
offers_libs allows libs e = allows e.instance.version && list_all (has_lib e.body) libs

-- a source instance of a version in the range, which has the executable
abbrev pub offers_exe : Range → Name → Entry → Bool
offers_exe range exe e = members range e.instance.version && has_exe e.body exe

-- The instances of its package that a dependency allows: those of allowed versions, which have its libraries or its
-- executable. The range of a tool isn't relaxed, so `allows` doesn't count there.
abbrev pub allowed_by : DepKind → (Version → Bool) → Dep → List Entry → List ℕ
allowed_by Library allows dep entries = places (offers_libs allows dep.libs) entries
allowed_by Tool allows dep entries = places (offers_exe dep.range dep.exe) entries
allowed_by Setup allows dep entries = places (offers_libs allows dep.libs) entries

-- the same in two steps: the allowed versions, and the instances that have the libraries or the executable

-- the versions that a dependency of a kind allows; the range of a tool isn't relaxed
abbrev pub allowed_for : DepKind → (Version → Bool) → Range → Version → Bool
allowed_for Library allows range = allows
allowed_for Tool allows range = members range
allowed_for Setup allows range = allows

-- whether an instance has the libraries or the executable of a dependency
abbrev pub has_for : DepKind → Dep → Body → Bool
has_for Library dep body = list_all (has_lib body) dep.libs
has_for Tool dep body = has_exe body dep.exe
has_for Setup dep body = list_all (has_lib body) dep.libs

-- the same for an entry that may be missing
abbrev pub has_in : DepKind → Dep → Option Entry → Bool
has_in kind dep None = false
has_in kind dep (Some e) = has_for kind dep e.body

-- the same for the entry at a place
abbrev pub has_at : DepKind → Dep → List Entry → ℕ → Bool
has_at kind dep entries i = has_in kind dep (slice_get entries i)

-- the instances in a range
abbrev pub allowed_in : Range → List Entry → List ℕ
allowed_in range entries = places (λ e. members range e.instance.version) entries

-- whether an entry is the unit with an id
abbrev pub is_unit : Name → Entry → Bool
is_unit id e = is_installed e.body && same_text e.instance.unit id

-- nothing for a local package
abbrev pub unless_local : Bool → List ℕ → List ℕ
unless_local true values = []
unless_local false values = values

-- the unit with this id; a local package hides its units
abbrev pub allowed_unit : Name → Package → List ℕ
allowed_unit id p = unless_local p.local (places (is_unit id) p.entries)
