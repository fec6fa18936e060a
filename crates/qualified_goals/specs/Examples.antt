-- Small examples of numbers and texts.
use Rattle.std.specs.Prelude.{◌≡◌, refl, true, false, List, [], ◌∷◌, codes, Some, None}
use Rattle.std.specs.declared.cmp.Ordering.TheVariants.{Less, Greater}
use Rattle.plan_types.specs.declared.index.Package.{Package}
use Rattle.qualified_goals.specs.declared.variable.Qual.TheVariants.{Top, Setup, Exe}
use Rattle.qualified_goals.specs.declared.variable.Part.TheVariants.{Package as ThePackage, Flag, Tests, Benches}
use Rattle.qualified_goals.specs.Names.{NameTable, number_of, package_cmp, goal_order}
use Rattle.qualified_goals.specs.Printed.{var_text}

abbrev packages : List Package
packages =
    record { name = codes "base"; local = false; extra = false; entries = [] }
    ∷ record { name = codes "main"; local = true; extra = false; entries = [] }
    ∷ record { name = codes "happy"; local = false; extra = false; entries = [] }
    ∷ record { name = codes "text"; local = false; extra = false; entries = [] }
    ∷ []

abbrev names : NameTable
names = record { packages = codes "base" ∷ codes "main" ∷ codes "happy" ∷ codes "text" ∷ []; flags = codes "debug" ∷ codes "fast" ∷ [] }

-- a number is a place
text-number : number_of names.packages (codes "text") ≡ Some 3
text-number = refl

no-number : number_of names.packages (codes "tex") ≡ None
no-number = refl

-- at top level, in a setup and for a tool
at-top : var_text names (record { qual = Top; «package» = 3; part = ThePackage }) ≡ codes "text"
at-top = refl

in-setup : var_text names (record { qual = Setup 1; «package» = 0; part = Flag 1 }) ≡ codes "main:setup.base:fast"
in-setup = refl

for-tool : var_text names (record { qual = Exe 1 2; «package» = 3; part = Tests }) ≡ codes "main:happy:exe.text:*test"
for-tool = refl

benches : var_text names (record { qual = Top; «package» = 1; part = Benches }) ≡ codes "main:*bench"
benches = refl

-- `base` comes first though it isn't local, and a local package before one with a lesser name
base-first : package_cmp (record { name = codes "base"; local = false; extra = false; entries = [] }) (record { name = codes "a"; local = true; extra = false; entries = [] }) ≡ Less
base-first = refl

local-first : package_cmp (record { name = codes "happy"; local = false; extra = false; entries = [] }) (record { name = codes "main"; local = true; extra = false; entries = [] }) ≡ Greater
local-first = refl

-- a setup comes before any tool, and flags before the tests
setup-first : goal_order packages names.flags (record { qual = Setup 3; «package» = 3; part = ThePackage }) (record { qual = Exe 0 0; «package» = 0; part = ThePackage }) ≡ Less
setup-first = refl

flag-first : goal_order packages names.flags (record { qual = Top; «package» = 1; part = Tests }) (record { qual = Top; «package» = 1; part = Flag 1 }) ≡ Greater
flag-first = refl
