-- Small examples of what is barred and what is relaxed.
use Rattle.std.specs.Prelude.{◌≡◌, refl, true, false, List, [], ◌∷◌, codes, None, Some}
use Rattle.plan_types.specs.declared.constraint.Constraint.{Constraint}
use Rattle.plan_types.specs.declared.constraint.Scope.TheVariants.{Top as AtTop, Setup as InSetups, SetupOf as InSetupOf}
use Rattle.plan_types.specs.declared.constraint.What.TheVariants.{Installed as OfUnit, Flags}
use Rattle.plan_types.specs.declared.dependency.RelaxOwner.TheVariants.{Release}
use Rattle.plan_types.specs.declared.index.Instance.{Instance}
use Rattle.plan_types.specs.declared.index.Origin.TheVariants.{Local, Source, Installed}
use Rattle.plan_types.specs.declared.limit.Limit.TheVariants.{Unlimited}
use Rattle.plan_types.specs.declared.project.Project.{Project}
use Rattle.qualified_goals.specs.declared.variable.Qual.{Qual}
use Rattle.qualified_goals.specs.declared.variable.Qual.TheVariants.{Top, Setup}
use Rattle.qualified_goals.specs.declared.variable.Part.TheVariants.{Package, Flag, Tests as TestPart, Benches as BenchPart}
use Rattle.qualified_goals.specs.declared.variable.Var.{Var}
use Rattle.qualified_goals.specs.Names.{NameTable}
use Rattle.constraint_set.specs.Bars.{covers, bars, bars_part, names_flag}
use Rattle.constraint_set.specs.Relaxed.{relaxes}

abbrev names : NameTable
names = record { packages = codes "base" ∷ codes "main" ∷ codes "a" ∷ []; flags = codes "f" ∷ codes "g" ∷ [] }

-- a project that sets nothing
abbrev pub plain_project : Project
plain_project = record {
  entries = [];
  extra = [];
  constraints = [];
  preferences = [];
  newer = [];
  older = [];
  tests = false;
  benchmarks = false;
  limit = Unlimited;
  prefer_oldest = false;
  boot_installs = false;
  warnings = [];
}

abbrev with_constraints : List Constraint → Project
with_constraints constraints = record plain_project { constraints = constraints; tests = true }

abbrev of_a : Qual → Var
of_a qual = record { qual = qual; «package» = 2; part = Package }

abbrev flag_of_a : Qual → Var
flag_of_a qual = record { qual = qual; «package» = 2; part = Flag 0 }

abbrev a_1 : Instance
a_1 = record { name = codes "a"; version = record { parts = 1 ∷ [] }; origin = Source; unit = [] }

-- `a installed` covers the top level alone
abbrev units_alone : Constraint
units_alone = record { scope = AtTop; «package» = codes "a"; what = OfUnit }

at-top : bars (with_constraints (units_alone ∷ [])) names (of_a Top) a_1 ≡ true
at-top = refl

in-setup : bars (with_constraints (units_alone ∷ [])) names (of_a (Setup 1)) a_1 ≡ false
in-setup = refl

-- `main:setup.` covers the setup of main
owner : covers names (InSetupOf (codes "main")) (Setup 1) ≡ true
owner = refl

other-owner : covers names (InSetupOf (codes "main")) (Setup 2) ≡ false
other-owner = refl

-- `setup.a +f` bars off in a setup, and names on under each qualifier
abbrev set_in_setups : Constraint
set_in_setups = record { scope = InSetups; «package» = codes "a"; what = Flags (record { name = codes "f"; on = true } ∷ []) }

off-in-setup : bars_part (with_constraints (set_in_setups ∷ [])) names (flag_of_a (Setup 1)) false ≡ true
off-in-setup = refl

on-in-setup : bars_part (with_constraints (set_in_setups ∷ [])) names (flag_of_a (Setup 1)) true ≡ false
on-in-setup = refl

off-at-top : bars_part (with_constraints (set_in_setups ∷ [])) names (flag_of_a Top) false ≡ false
off-at-top = refl

named-at-top : names_flag (with_constraints (set_in_setups ∷ [])) names (flag_of_a Top) true ≡ true
named-at-top = refl

-- the project requires tests, and no benchmarks
no-tests : bars_part (with_constraints []) names (record { qual = Top; «package» = 1; part = TestPart }) false ≡ true
no-tests = refl

no-benchmarks : bars_part (with_constraints []) names (record { qual = Top; «package» = 1; part = BenchPart }) false ≡ false
no-benchmarks = refl

-- a boot library is barred unless it is installed, also a local one
boot-local : bars (with_constraints []) names (record { qual = Top; «package» = 0; part = Package }) (record { name = codes "base"; version = record { parts = 4 ∷ [] }; origin = Local; unit = [] }) ≡ true
boot-local = refl

boot-installed : bars (with_constraints []) names (record { qual = Top; «package» = 0; part = Package }) (record { name = codes "base"; version = record { parts = 4 ∷ [] }; origin = Installed; unit = codes "base-4" }) ≡ false
boot-installed = refl

-- `a-1:b` means version 1 of a, and not 1.0
released : relaxes (record { owner = Release (codes "a") (record { parts = 1 ∷ [] }); dep = Some (codes "b") } ∷ []) a_1 (codes "b") ≡ true
released = refl

other-release : relaxes (record { owner = Release (codes "a") (record { parts = 1 ∷ 0 ∷ [] }); dep = None } ∷ []) a_1 (codes "b") ≡ false
other-release = refl
