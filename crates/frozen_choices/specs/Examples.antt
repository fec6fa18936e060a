-- Constraints of small trails, computed.
use Rattle.std.specs.Prelude.{◌≡◌, ℕ, Bool, true, false, List, [], ◌∷◌, codes, refl}
use Rattle.plan_types.specs.declared.condition.FlagSet.{FlagSet}
use Rattle.plan_types.specs.declared.constraint.Constraint.{Constraint}
use Rattle.plan_types.specs.declared.constraint.Scope.{Scope}
use Rattle.plan_types.specs.declared.constraint.Scope.TheVariants.{Any, SetupOf, Top as AtTop}
use Rattle.plan_types.specs.declared.constraint.What.{What}
use Rattle.plan_types.specs.declared.constraint.What.TheVariants as what
use Rattle.plan_types.specs.declared.description.FlagDecl.{FlagDecl}
use Rattle.plan_types.specs.declared.index.Body.{Body}
use Rattle.plan_types.specs.declared.index.Body.TheVariants.{Source, Installed}
use Rattle.plan_types.specs.declared.index.Entry.{Entry}
use Rattle.plan_types.specs.declared.index.Package.{Package}
use Rattle.plan_types.specs.declared.range.Range.TheVariants.{Equal}
use Rattle.plan_types.specs.declared.range.Spec.TheVariants.{V3_0}
use Rattle.plan_types.specs.declared.version.Version.{Version}
use Rattle.flatten.specs.Sound.{instance_of}
use Rattle.qualified_goals.specs.declared.variable.Part.{Part}
use Rattle.qualified_goals.specs.declared.variable.Part.TheVariants.{Package as ThePackage, Flag}
use Rattle.qualified_goals.specs.declared.variable.Qual.{Qual}
use Rattle.qualified_goals.specs.declared.variable.Qual.TheVariants.{Top, Setup}
use Rattle.qualified_goals.specs.Names.{NameTable}
use Rattle.choice_problem.specs.declared.problem.Choice.{Choice}
use Rattle.frozen_choices.specs.Frozen.{asked, flags_asked, frozen}

-- ---- a local package `main` without flags, and `dep`: source 1 with an automatic and a manual flag, and unit 2

abbrev version : ℕ → Version
version n = record { parts = n ∷ [] }

abbrev flag : Bool → List ℕ → FlagDecl
flag manual name = record { line = 1; name = name; default = true; manual = manual }

abbrev described : List ℕ → List FlagDecl → Body
described name flags = Source (record {
  description = record {
    spec = V3_0;
    name = name;
    version = version 1;
    custom = true;
    flags = flags;
    components = [];
    setup = [];
    digest = [];
    warnings = [];
  };
  flat = [];
  exposed = record { libs = []; exes = [] };
})

abbrev entry : Bool → Body → Entry
entry local body = record { instance = instance_of local body; body = body }

abbrev unit : Body
unit = Installed (record { name = codes "dep"; version = version 2; id = codes "dep-2"; depends = [] }) []

abbrev main : Package
main = record { name = codes "main"; local = true; extra = false; entries = entry true (described (codes "main") []) ∷ [] }

abbrev dep : Package
dep = record {
  name = codes "dep";
  local = false;
  extra = false;
  entries = entry false (described (codes "dep") (flag false (codes "fast") ∷ flag true (codes "safe") ∷ [])) ∷ entry false unit ∷ [];
}

abbrev names : NameTable
names = record { packages = codes "main" ∷ codes "dep" ∷ []; flags = codes "fast" ∷ codes "safe" ∷ [] }

abbrev choice : Qual → ℕ → Part → ℕ → Choice
choice q p part value = record { var = record { qual = q; «package» = p; part = part }; val = value }

-- the source of `dep` under a qualifier, with values of its flags
abbrev source : Qual → ℕ → ℕ → List Choice
source q fast safe = choice q 1 ThePackage 0 ∷ choice q 1 (Flag 0) fast ∷ choice q 1 (Flag 1) safe ∷ []

abbrev set_to : Bool → List ℕ → FlagSet
set_to on name = record { name = name; on = on }

abbrev of_dep : Scope → What → Constraint
of_dep at wanted = asked at (codes "dep") wanted

-- ---- the constraints

-- the same instance at top level and in the setup of `main`: everywhere, with all its flags
alike_everywhere : frozen (main ∷ dep ∷ []) names (choice Top 0 ThePackage 0 ∷ choice Top 1 ThePackage 0 ∷ choice Top 1 (Flag 0) 1 ∷ choice Top 1 (Flag 1) 0 ∷ source (Setup 0) 1 0)
    ≡ of_dep Any (what.Range (Equal (version 1))) ∷ of_dep Any what.Source ∷ of_dep Any (what.Flags (set_to true (codes "fast") ∷ set_to false (codes "safe") ∷ [])) ∷ []
alike_everywhere = refl

-- the unit at top level and the source in the setup: apart, without the manual flag
apart : frozen (main ∷ dep ∷ []) names (choice Top 0 ThePackage 0 ∷ choice Top 1 ThePackage 1 ∷ source (Setup 0) 1 1)
    ≡ of_dep AtTop (what.Range (Equal (version 2))) ∷ of_dep AtTop what.Installed ∷ of_dep (SetupOf (codes "main")) (what.Range (Equal (version 1)))
    ∷ of_dep (SetupOf (codes "main")) what.Source ∷ of_dep (SetupOf (codes "main")) (what.Flags (set_to true (codes "fast") ∷ [])) ∷ []
apart = refl

-- a local package: only its flags
local_flags : frozen (record main { entries = entry true (described (codes "main") (flag true (codes "safe") ∷ [])) ∷ [] } ∷ []) names
    (choice Top 0 ThePackage 0 ∷ choice Top 0 (Flag 1) 1 ∷ [])
    ≡ asked Any (codes "main") (what.Flags (set_to true (codes "safe") ∷ [])) ∷ []
local_flags = refl

-- `-none` alone would be read as a range
nothing_asked : flags_asked Any (codes "main") (set_to false (codes "none") ∷ []) ≡ []
nothing_asked = refl
