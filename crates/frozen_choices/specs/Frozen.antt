-- The constraints of a trail, which reproduce its choices.
use Rattle.std.specs.Prelude.{ℕ, Bool, false, not, ◌&&◌, ◌==◌, List, [], ◌∷◌, ◌++◌, map, filter, flat_map, length, Option, Some, None, if◌then◌else◌}
use Rattle.std.specs.List.{list_any, list_all}
use Rattle.conditionals.specs.Paths.{is_same}
use Rattle.plan_types.specs.declared.condition.FlagSet.{FlagSet}
use Rattle.plan_types.specs.declared.constraint.Constraint.{Constraint}
use Rattle.plan_types.specs.declared.constraint.Scope.{Scope}
use Rattle.plan_types.specs.declared.constraint.Scope.TheVariants as scope
use Rattle.plan_types.specs.declared.constraint.What.{What}
use Rattle.plan_types.specs.declared.constraint.What.TheVariants as what
use Rattle.plan_types.specs.declared.description.FlagDecl.{FlagDecl}
use Rattle.plan_types.specs.declared.index.Entry.{Entry}
use Rattle.plan_types.specs.declared.index.Package.{Package}
use Rattle.plan_types.specs.declared.range.Range.TheVariants.{Equal}
use Rattle.plan_types.specs.Packages.{declared_by, entries_of, is_installed, package_at}
use Rattle.qualified_goals.specs.declared.variable.Part.TheVariants.{Flag}
use Rattle.qualified_goals.specs.declared.variable.Qual.{Qual}
use Rattle.qualified_goals.specs.declared.variable.Qual.TheVariants.{Top, Setup, Exe}
use Rattle.qualified_goals.specs.Names.{Name, NameTable}
use Rattle.choice_problem.specs.declared.problem.Choice.{Choice}
use Rattle.choice_problem.specs.Trail.{choice_of, value_in}
use Rattle.choice_problem.specs.Twins.{is_of_package}
use Rattle.constraint_set.specs.Relaxed.{is_version}
use Rattle.solver_index.specs.Defaults.{has_number}
use Rattle.solver_index.specs.Places.{entry_at, flag_number, rising}
use Rattle.cabal_problem.specs.ListedDemands.{part_beside}
use Rattle.cabal_problem.specs.Values.{package_var}
use Rattle.cabal_problem.specs.Variables.{is_on}
use Rattle.freeze_text.specs.Reads.{are_flags}

-- ---- instances

-- the choices of a package's instances, under any qualifier
abbrev pub instances_in : List Choice → ℕ → List Choice
instances_in trail p = filter (is_of_package p) trail

-- the instance of a choice
abbrev pub entry_of : List Package → Choice → Entry
entry_of packages c = entry_at (entries_of packages c.var.«package») c.val

-- whether two instances have the same version, and both are installed or neither is
abbrev pub are_alike : Entry → Entry → Bool
are_alike a b = is_version a.instance.version b.instance.version && is_same (is_installed a.body) (is_installed b.body)

-- whether the instances of these choices are all alike
abbrev pub is_uniform : List Package → Choice → List Choice → Bool
is_uniform packages first choices = list_all (λ c. are_alike (entry_of packages first) (entry_of packages c)) choices

-- ---- flags

-- whether a flag has a value, which is on
abbrev pub is_turned_on : Option ℕ → Bool
is_turned_on None = false
is_turned_on (Some n) = is_on n

-- a flag of a chosen instance, with its value in the trail under the same qualifier
abbrev pub flag_beside : NameTable → List Choice → Choice → FlagDecl → FlagSet
flag_beside names trail c decl = record { name = decl.name; on = is_turned_on (value_in trail (part_beside c (Flag (flag_number names decl.name)))) }

-- all flags of a chosen instance, in the order of their names
abbrev pub all_flags : List Package → NameTable → List Choice → Choice → List FlagSet
all_flags packages names trail c = map (flag_beside names trail c) (declared_by (entry_of packages c).body)

-- whether some instance of a package declares the flag with a number as manual
abbrev pub is_manual : NameTable → List Entry → ℕ → Bool
is_manual names entries f = list_any (λ e. list_any (λ decl. decl.manual && has_number names f decl) (declared_by e.body)) entries

-- whether no instance of a package declares a flag of this name as manual
abbrev pub is_automatic : NameTable → List Entry → FlagDecl → Bool
is_automatic names entries decl = not (is_manual names entries (flag_number names decl.name))

-- the automatic flags of a chosen instance
abbrev pub automatic_flags : List Package → NameTable → List Choice → Choice → List FlagSet
automatic_flags packages names trail c =
    map (flag_beside names trail c) (filter (is_automatic names (entries_of packages c.var.«package»)) (declared_by (entry_of packages c).body))

-- ---- constraints on a package

-- a constraint on a package
abbrev pub asked : Scope → Name → What → Constraint
asked at name wanted = record { scope = at; «package» = name; what = wanted }

-- `installed` or `source`
abbrev pub kind_of : Entry → What
kind_of e = if is_installed e.body then what.Installed else what.Source

-- the constraints on an instance: its version, and `installed` or `source`
abbrev pub instance_asked : Scope → Name → Entry → List Constraint
instance_asked at name e = asked at name (what.Range (Equal e.instance.version)) ∷ asked at name (kind_of e) ∷ []

-- the constraint on flags, or none if these don't read as flags
abbrev pub flags_asked : Scope → Name → List FlagSet → List Constraint
flags_asked at name sets = if are_flags sets then asked at name (what.Flags sets) ∷ [] else []

-- ---- a package

-- the constraints of a chosen instance, with its automatic flags
abbrev pub asked_of : List Package → NameTable → List Choice → Scope → Choice → List Constraint
asked_of packages names trail at c =
    instance_asked at (package_at packages c.var.«package»).name (entry_of packages c)
    ++ flags_asked at (package_at packages c.var.«package»).name (automatic_flags packages names trail c)

-- the same by the value of the choice, none without a choice
abbrev pub asked_where : List Package → NameTable → List Choice → Scope → Qual → ℕ → Option ℕ → List Constraint
asked_where packages names trail at q p None = []
asked_where packages names trail at q p (Some i) = asked_of packages names trail at (choice_of (package_var q p) i)

-- the same for the trail's choice under a qualifier
abbrev pub asked_under : List Package → NameTable → List Choice → Scope → Qual → ℕ → List Constraint
asked_under packages names trail at q p = asked_where packages names trail at q p (value_in trail (package_var q p))

-- whether a qualifier is the setup of a package
abbrev pub is_setup_of : ℕ → Qual → Bool
is_setup_of s Top = false
is_setup_of s (Setup p) = s == p
is_setup_of s (Exe p t) = false

-- the packages whose setups have choices, in goal order
abbrev pub setups_in : List Package → List Choice → List ℕ
setups_in packages trail = filter (λ s. list_any (λ c. is_setup_of s c.var.qual) trail) (rising (length packages))

-- the constraints of a package's instance in the setup of a package
abbrev pub asked_in_setup : List Package → NameTable → List Choice → ℕ → ℕ → List Constraint
asked_in_setup packages names trail p s = asked_under packages names trail (scope.SetupOf (package_at packages s).name) (Setup s) p

-- the constraints of a package whose instances aren't all alike: at top level and for each setup
abbrev pub asked_apart : List Package → NameTable → List Choice → ℕ → List Constraint
asked_apart packages names trail p =
    asked_under packages names trail scope.Top Top p ++ flat_map (asked_in_setup packages names trail p) (setups_in packages trail)

-- the constraints of a package whose instances are all alike
abbrev pub asked_everywhere : List Package → NameTable → List Choice → Choice → List Constraint
asked_everywhere packages names trail c =
    instance_asked scope.Any (package_at packages c.var.«package»).name (entry_of packages c)
    ++ flags_asked scope.Any (package_at packages c.var.«package»).name (all_flags packages names trail c)

-- the constraints of a local package: its flags, since it has only one instance
abbrev pub asked_of_local : List Package → NameTable → List Choice → Choice → List Constraint
asked_of_local packages names trail c = flags_asked scope.Any (package_at packages c.var.«package»).name (all_flags packages names trail c)

-- the constraints of a package, by the choices of its instances
abbrev pub frozen_as : List Package → NameTable → List Choice → ℕ → List Choice → List Constraint
frozen_as packages names trail p [] = []
frozen_as packages names trail p (first ∷ others) =
    if (package_at packages p).local then asked_of_local packages names trail first
    else if is_uniform packages first others then asked_everywhere packages names trail first
    else asked_apart packages names trail p

-- the constraints of a package
abbrev pub frozen_package : List Package → NameTable → List Choice → ℕ → List Constraint
frozen_package packages names trail p = frozen_as packages names trail p (instances_in trail p)

-- the constraints of all packages, in goal order
abbrev pub frozen : List Package → NameTable → List Choice → List Constraint
frozen packages names trail = flat_map (frozen_package packages names trail) (rising (length packages))
