-- Small examples, computed: a local package `main` with a flag, tests and a setup script, and an installed `base`.
use Rattle.std.specs.Prelude.{◌≡◌, ℕ, Bool, true, false, List, [], ◌∷◌, None, codes, refl}
use Rattle.plan_types.specs.declared.condition.Cond.TheVariants.{Always}
use Rattle.plan_types.specs.declared.dependency.DepKind.TheVariants as kind
use Rattle.plan_types.specs.declared.dependency.LibName.TheVariants.{Main, Named}
use Rattle.plan_types.specs.declared.description.CompKind.TheVariants.{Test}
use Rattle.plan_types.specs.declared.description.Description.{Description}
use Rattle.plan_types.specs.declared.description.FlagDecl.{FlagDecl}
use Rattle.plan_types.specs.declared.index.Body.{Body}
use Rattle.plan_types.specs.declared.index.Body.TheVariants.{Source, Installed}
use Rattle.plan_types.specs.declared.index.Origin.TheVariants as origin
use Rattle.plan_types.specs.declared.index.Package.{Package}
use Rattle.plan_types.specs.declared.range.Spec.TheVariants.{V3_0}
use Rattle.qualified_goals.specs.declared.variable.Qual.TheVariants.{Top, Setup, Exe}
use Rattle.qualified_goals.specs.declared.variable.Part.TheVariants.{Package as ThePackage, Flag, Tests}
use Rattle.qualified_goals.specs.Names.{NameTable}
use Rattle.constraint_set.specs.Examples.{plain_project}
use Rattle.cabal_problem.specs.Variables.{is_qual, is_known, domain_of}
use Rattle.qualified_goals.specs.declared.variable.Var.{Var}
use Rattle.choice_problem.specs.declared.problem.Choice.{Choice}
use Rattle.cabal_problem.specs.Values.{order_of, package_var}
use Rattle.solver_index.specs.Allowed.{allowed_unit, has_lib}
use Rattle.cabal_problem.specs.ListedDemands.{flag_values, qual_for}
use Rattle.cabal_problem.specs.WholeDemands.{on_or_off}

abbrev fast : Bool → FlagDecl
fast manual = record { line = 4; name = codes "fast"; default = true; manual = manual }

abbrev main : Description
main = record {
  spec = V3_0;
  name = codes "main";
  version = record { parts = 1 ∷ [] };
  custom = true;
  flags = fast true ∷ [];
  components = record { line = 6; kind = Test; name = codes "spec"; public = false; build = record { buildable = Always; deps = [] } } ∷ [];
  setup = [];
  digest = [];
  warnings = [];
}

abbrev base_unit : Body
base_unit = Installed (record { name = codes "base"; version = record { parts = 4 ∷ [] }; id = codes "base-4"; depends = [] }) []

abbrev base : Bool → Package
base local = record {
  name = codes "base";
  local = local;
  extra = false;
  entries = record { instance = record { name = codes "base"; version = record { parts = 4 ∷ [] }; origin = origin.Installed; unit = codes "base-4" }; body = base_unit } ∷ [];
}

abbrev main_body : Body
main_body = Source (record { description = main; flat = []; exposed = record { libs = Named (codes "sub") ∷ []; exes = [] } })

abbrev packages : List Package
packages =
    base false
    ∷ record {
      name = codes "main";
      local = true;
      extra = false;
      entries = record { instance = record { name = codes "main"; version = record { parts = 1 ∷ [] }; origin = origin.Local; unit = [] }; body = main_body } ∷ [];
    }
    ∷ []

abbrev names : NameTable
names = record { packages = codes "base" ∷ codes "main" ∷ []; flags = codes "fast" ∷ [] }

-- main has a setup script, base hasn't, and neither depends on a tool
a-setup : is_qual packages names (Setup 1) ≡ true
a-setup = refl

no-setup : is_qual packages names (Setup 0) ≡ false
no-setup = refl

no-tool : is_qual packages names (Exe 1 0) ≡ false
no-tool = refl

-- the tests of main have a variable only at top level
tests-at-top : is_known packages names (record { qual = Top; «package» = 1; part = Tests }) ≡ true
tests-at-top = refl

tests-in-setup : is_known packages names (record { qual = Setup 1; «package» = 1; part = Tests }) ≡ false
tests-in-setup = refl

flag-in-setup : is_known packages names (record { qual = Setup 1; «package» = 1; part = Flag 0 }) ≡ true
flag-in-setup = refl

one-instance : domain_of packages 1 ThePackage ≡ 1
one-instance = refl

-- a flag is off first, or has the default of the chosen instance first; a stanza is on first
not-chosen : order_of packages names [] Top 1 (Flag 0) [] ≡ 0 ∷ 1 ∷ []
not-chosen = refl

chosen-first : order_of packages names [] Top 1 (Flag 0) (record { var = package_var Top 1; val = 0 } ∷ []) ≡ 1 ∷ 0 ∷ []
chosen-first = refl

chosen-elsewhere : order_of packages names [] (Setup 1) 1 (Flag 0) (record { var = package_var Top 1; val = 0 } ∷ []) ≡ 0 ∷ 1 ∷ []
chosen-elsewhere = refl

-- an instance chosen in a setup comes first, and once, even if preferred last; the variable's own choice doesn't count
abbrev taken : Var → ℕ → Choice
taken v n = record { var = v; val = n }

reused-first : order_of packages names ([] ∷ (2 ∷ 1 ∷ 0 ∷ []) ∷ []) Top 1 ThePackage
    (taken (package_var Top 1) 1 ∷ taken (package_var (Setup 1) 1) 0 ∷ taken (package_var (Setup 0) 1) 0 ∷ taken (package_var (Setup 1) 0) 2 ∷ []) ≡ 0 ∷ 2 ∷ 1 ∷ []
reused-first = refl

on-before-off : order_of packages names [] Top 1 Tests [] ≡ 1 ∷ 0 ∷ []
on-before-off = refl

-- a manual flag has only its default
manual : flag_values plain_project names (record { qual = Top; «package» = 1; part = Flag 0 }) (fast true) ≡ 1 ∷ []
manual = refl

automatic : flag_values plain_project names (record { qual = Top; «package» = 1; part = Flag 0 }) (fast false) ≡ 0 ∷ 1 ∷ []
automatic = refl

-- the unit with this id, and nothing for a local package
that-unit : allowed_unit (codes "base-4") (base false) ≡ 0 ∷ []
that-unit = refl

another-unit : allowed_unit (codes "base-5") (base false) ≡ []
another-unit = refl

hidden-unit : allowed_unit (codes "base-4") (base true) ≡ []
hidden-unit = refl

-- a unit has the main library, a source instance those that it exposes
unit-main : has_lib base_unit Main ≡ true
unit-main = refl

unit-named : has_lib base_unit (Named (codes "sub")) ≡ false
unit-named = refl

not-exposed : has_lib main_body Main ≡ false
not-exposed = refl

exposed-library : has_lib main_body (Named (codes "sub")) ≡ true
exposed-library = refl

-- a setup dependency is chosen in the setup of the owner's package, whatever the owner's qualifier
in-setup : qual_for kind.Setup (package_var Top 1) 0 ≡ Setup 1
in-setup = refl

for-a-tool : qual_for kind.Tool (package_var Top 1) 0 ≡ Exe 1 0
for-a-tool = refl

-- a value above 1 is no setting
beyond-on : on_or_off 2 ≡ None
beyond-on = refl
