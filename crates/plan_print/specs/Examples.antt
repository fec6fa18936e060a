-- Small texts, computed.
use Rattle.std.specs.Prelude.{◌≡◌, refl, ℕ, true, false, List, [], ◌∷◌, ◌++◌, codes}
use Rattle.std.specs.Fmt.{digits}
use Rattle.plan_types.specs.declared.index.Body.{Body}
use Rattle.plan_types.specs.declared.index.Body.TheVariants.{Installed as InstalledBody}
use Rattle.plan_types.specs.declared.index.Entry.{Entry}
use Rattle.plan_types.specs.declared.index.Index.{Index}
use Rattle.plan_types.specs.declared.index.Origin.{Origin}
use Rattle.plan_types.specs.declared.index.Origin.TheVariants.{Local, Source, Installed}
use Rattle.plan_types.specs.declared.refusal.Cause.TheVariants.{BadName, MissingField, NoPackages, NoMatch}
use Rattle.qualified_goals.specs.declared.variable.Qual.TheVariants.{Top, Setup}
use Rattle.qualified_goals.specs.declared.variable.Part.{Part}
use Rattle.qualified_goals.specs.declared.variable.Part.TheVariants.{Package as ThePackage, Flag, Tests}
use Rattle.qualified_goals.specs.declared.variable.Var.{Var}
use Rattle.qualified_goals.specs.Names.{NameTable}
use Rattle.choice_problem.specs.declared.outcome.Counts.{Counts}
use Rattle.choice_problem.specs.declared.problem.Choice.{Choice}
use Rattle.plan_print.specs.Choice.{choice_line}
use Rattle.plan_print.specs.Texts.{plan_text, conflict_text, gave_up_text, refusal_text}

abbrev body : Body
body = InstalledBody (record { name = []; version = record { parts = [] }; id = []; depends = [] }) []

abbrev entry : List ℕ → Origin → List ℕ → Entry
entry parts origin unit = record { instance = record { name = []; version = record { parts = parts }; origin = origin; unit = unit }; body = body }

abbrev index : Index
index = record {
  packages =
      record { name = codes "base"; local = false; extra = false; entries = entry (4 ∷ 17 ∷ []) Installed (codes "base-4.17") ∷ [] }
      ∷ record { name = codes "main"; local = true; extra = false; entries = entry (1 ∷ []) Local [] ∷ [] }
      ∷ record { name = codes "a"; local = false; extra = false; entries = entry (2 ∷ []) Source [] ∷ entry (1 ∷ 0 ∷ []) Source [] ∷ [] }
      ∷ [];
  skipped =
      record { path = codes "index/a/3/a.cabal"; line = 0; cause = MissingField }
      ∷ record { path = codes "index/b/1/b.cabal"; line = 10; cause = BadName }
      ∷ [];
  warnings = record { path = codes "main.cabal"; line = 28; word = codes "build-tools" } ∷ [];
}

abbrev names : NameTable
names = record { packages = codes "base" ∷ codes "main" ∷ codes "a" ∷ []; flags = codes "fast" ∷ [] }

abbrev at_top : ℕ → Part → Var
at_top number part = record { qual = Top; «package» = number; part = part }

abbrev choice : Var → ℕ → Choice
choice v value = record { var = v; val = value }

abbrev counts : Counts
counts = record { visited = 12; exhausted = 3 }

abbrev notes : List ℕ
notes =
    codes "skipped index/a/3/a.cabal MissingField\n"
    ++ codes "skipped index/b/1/b.cabal:10 BadName\n"
    ++ codes "warning main.cabal:28 build-tools\n"

-- each origin, and a flag
plan : plan_text index names (choice (at_top 0 ThePackage) 0 ∷ choice (at_top 1 ThePackage) 0 ∷ choice (at_top 2 ThePackage) 1 ∷ choice (at_top 2 (Flag 0)) 1 ∷ []) [] counts
    ≡ codes "plan\n" ++ notes
    ++ codes "choose base 4.17 installed base-4.17\nchoose main 1 local\nchoose a 1.0 source\nchoose a:fast on\n"
    ++ codes "visited 12 exhausted 3\n"
unfolding digits
plan = refl

off : choice_line index names (choice (at_top 1 Tests) 0) ≡ codes "choose main:*test off\n"
off = refl

-- an instance out of range has no text
no-entry : choice_line index names (choice (at_top 1 ThePackage) 1) ≡ codes "choose main \n"
no-entry = refl

conflict : conflict_text index names (at_top 1 ThePackage ∷ at_top 2 ThePackage ∷ record { qual = Setup 2; «package» = 0; part = ThePackage } ∷ []) counts
    ≡ codes "no plan\n" ++ notes ++ codes "conflict main a a:setup.base\nvisited 12 exhausted 3\n"
unfolding digits
conflict = refl

gave-up : gave_up_text index counts ≡ codes "gave up\n" ++ notes ++ codes "visited 12 exhausted 3\n"
unfolding digits
gave-up = refl

refused : refusal_text (record { path = codes "."; line = 0; cause = NoPackages; detail = [] }) ≡ codes "refused . NoPackages\n"
refused = refl

with-detail : refusal_text (record { path = codes "cabal.project"; line = 3; cause = NoMatch; detail = codes "a/*.cabal" }) ≡ codes "refused cabal.project:3 NoMatch a/*.cabal\n"
unfolding digits
with-detail = refl
