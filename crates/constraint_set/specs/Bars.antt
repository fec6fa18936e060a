-- What the constraints of a project bar.
use Rattle.std.specs.Prelude.{ℕ, Bool, true, false, not, ◌&&◌, ◌||◌, List, [], ◌∷◌, flat_map, codes, Option, Some, None, nat_eq, if◌then◌else◌}
use Rattle.std.specs.List.{list_any}
use Rattle.plan_types.specs.Members.{members}
use Rattle.plan_types.specs.declared.condition.FlagSet.{FlagSet}
use Rattle.plan_types.specs.declared.constraint.Scope.{Scope}
use Rattle.plan_types.specs.declared.constraint.Scope.TheVariants.{Top as AtTop, Any as Everywhere, Setup as InSetups, SetupOf as InSetupOf}
use Rattle.plan_types.specs.declared.constraint.What.{What}
use Rattle.plan_types.specs.declared.constraint.What.TheVariants.{Range, Installed, Source, Flags, Tests, Benches}
use Rattle.plan_types.specs.declared.constraint.Constraint.{Constraint}
use Rattle.plan_types.specs.declared.index.Instance.{Instance}
use Rattle.plan_types.specs.declared.index.Origin.{Origin}
use Rattle.plan_types.specs.declared.index.Origin.TheVariants.{Local, Source as OfSource, Installed as OfUnit}
use Rattle.plan_types.specs.declared.project.Project.{Project}
use Rattle.qualified_goals.specs.declared.variable.Qual.{Qual}
use Rattle.qualified_goals.specs.declared.variable.Qual.TheVariants.{Top, Setup, Exe}
use Rattle.qualified_goals.specs.declared.variable.Part.{Part}
use Rattle.qualified_goals.specs.declared.variable.Part.TheVariants.{Package, Flag, Tests as TestPart, Benches as BenchPart}
use Rattle.qualified_goals.specs.declared.variable.Var.{Var}
use Rattle.qualified_goals.specs.Names.{Name, NameTable, number_of, is_listed}

-- whether the number exists and is this one
abbrev pub is_number : Option ℕ → ℕ → Bool
is_number None n = false
is_number (Some m) n = nat_eq m n

-- whether a constraint is on the package with this number
abbrev pub is_on : NameTable → Constraint → ℕ → Bool
is_on names c p = is_number (number_of names.packages c.«package») p

-- Whether a scope covers a qualifier: no prefix the top level, `any.` everything, `setup.` each setup, `p:setup.` the
-- setup of p.
abbrev pub covers : NameTable → Scope → Qual → Bool
covers names AtTop Top = true
covers names AtTop (Setup p) = false
covers names AtTop (Exe p t) = false
covers names Everywhere Top = true
covers names Everywhere (Setup p) = true
covers names Everywhere (Exe p t) = true
covers names InSetups Top = false
covers names InSetups (Setup p) = true
covers names InSetups (Exe p t) = false
covers names (InSetupOf owner) Top = false
covers names (InSetupOf owner) (Setup p) = is_number (number_of names.packages owner) p
covers names (InSetupOf owner) (Exe p t) = false

-- whether a constraint is on the package of a variable, and its scope covers the variable's qualifier
abbrev pub applies : NameTable → Constraint → Var → Bool
applies names c v = is_on names c v.«package» && covers names c.scope v.qual

-- whether an instance is an installed unit
abbrev pub is_unit : Origin → Bool
is_unit Local = false
is_unit OfSource = false
is_unit OfUnit = true

-- whether a constraint excludes an instance of its package
abbrev pub excludes : What → Instance → Bool
excludes (Range range) i = not (members range i.version)
excludes Installed i = not (is_unit i.origin)
excludes Source i = is_unit i.origin
excludes (Flags sets) i = false
excludes Tests i = false
excludes Benches i = false

-- the values that settings of flags require of one flag
abbrev pub flag_values : NameTable → List FlagSet → ℕ → List Bool
flag_values names sets f = flat_map (λ s. if is_number (number_of names.flags s.name) f then s.on ∷ [] else []) sets

-- the values that settings of flags require of a part
abbrev pub set_values : NameTable → List FlagSet → Part → List Bool
set_values names sets Package = []
set_values names sets (Flag f) = flag_values names sets f
set_values names sets TestPart = []
set_values names sets BenchPart = []

-- the value that `test` requires of a part
abbrev pub test_values : Part → List Bool
test_values Package = []
test_values (Flag f) = []
test_values TestPart = true ∷ []
test_values BenchPart = []

-- the value that `bench` requires of a part
abbrev pub bench_values : Part → List Bool
bench_values Package = []
bench_values (Flag f) = []
bench_values TestPart = []
bench_values BenchPart = true ∷ []

-- the values that a constraint requires of a part
abbrev pub values_of : NameTable → What → Part → List Bool
values_of names (Range range) part = []
values_of names Installed part = []
values_of names Source part = []
values_of names (Flags sets) part = set_values names sets part
values_of names Tests part = test_values part
values_of names Benches part = bench_values part

-- whether two values are equal
abbrev pub is_value : Bool → Bool → Bool
is_value true on = on
is_value false on = not on

-- whether a constraint requires this value of a part
abbrev pub requires_value : NameTable → What → Part → Bool → Bool
requires_value names what part on = list_any (λ value. is_value value on) (values_of names what part)

-- whether the project requires this stanza of every package
abbrev pub requires_stanza : Bool → Bool → Part → Bool
requires_stanza tests benchmarks Package = false
requires_stanza tests benchmarks (Flag f) = false
requires_stanza tests benchmarks TestPart = tests
requires_stanza tests benchmarks BenchPart = benchmarks

-- the libraries that come with the compiler
abbrev pub boot_libraries : List Name
boot_libraries = codes "base" ∷ codes "ghc-bignum" ∷ codes "ghc-prim" ∷ codes "integer-gmp" ∷ codes "integer-simple" ∷ codes "template-haskell" ∷ []

-- a boot library that isn't installed and may not be built
abbrev pub is_boot : Project → Instance → Bool
is_boot project i = is_listed boot_libraries i.name && not (is_unit i.origin) && not project.boot_installs

-- an instance is barred if a constraint in scope excludes it, or if it is a boot library that may not be built
abbrev pub bars : Project → NameTable → Var → Instance → Bool
bars project names v i = list_any (λ c. applies names c v && excludes c.what i) project.constraints || is_boot project i

-- the value of a part is barred if a constraint in scope or the project requires the other value
abbrev pub bars_part : Project → NameTable → Var → Bool → Bool
bars_part project names v on = list_any (λ c. applies names c v && requires_value names c.what v.part (not on)) project.constraints || (requires_stanza project.tests project.benchmarks v.part && not on)

-- whether a constraint on the package, whatever its scope, requires the value
abbrev pub names_flag : Project → NameTable → Var → Bool → Bool
names_flag project names v on = list_any (λ c. is_on names c v.«package» && requires_value names c.what v.part on) project.constraints
