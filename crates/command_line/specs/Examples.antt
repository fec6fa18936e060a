-- Readings of words, computed.
use Rattle.std.specs.Prelude.{◌≡◌, refl, false, [], ◌∷◌, Some, None, codes}
use Rattle.plan_types.specs.declared.limit.Limit.TheVariants.{Unlimited, At}
use Rattle.command_line.specs.declared.option_name.OptionName.TheVariants.{Index, Json}
use Rattle.command_line.specs.declared.reading.Command.TheVariants.{Plan, Generate, Freeze, Replay}
use Rattle.command_line.specs.Form.{is_compiler, is_path, is_signed}
use Rattle.command_line.specs.Words.{given}
use Rattle.command_line.specs.Reading.{plain_options, reading}
use Rattle.version_range.specs.Number.{limit_of}

plain : reading (codes "plan" ∷ []) ≡ Some (Plan (record {
  places = record { index = codes "index"; installed = codes "installed" };
  env = record { os = codes "linux"; arch = codes "x86_64"; compiler = codes "ghc"; compiler_version = record { parts = 9 ∷ 4 ∷ 7 ∷ [] } };
  limit = None;
  json = false;
  count_conflicts = false;
  minimize = false;
}))
plain = refl

told : reading (codes "--os=Win32" ∷ codes "plan" ∷ codes "--compiler=GHC-8.10" ∷ codes "--max-backjumps=7" ∷ codes "--index=a/b" ∷ []) ≡ Some (Plan (record {
  places = record { index = codes "a/b"; installed = codes "installed" };
  env = record { os = codes "windows"; arch = codes "x86_64"; compiler = codes "ghc"; compiler_version = record { parts = 8 ∷ 10 ∷ [] } };
  limit = Some (At 7);
  json = false;
  count_conflicts = false;
  minimize = false;
}))
told = refl

a-folder : reading (codes "--number=0100" ∷ codes "generate" ∷ []) ≡ Some (Generate 100 (At 4000))
a-folder = refl

a-build : reading (codes "replay" ∷ codes "--slots=08" ∷ codes "--events=a/b" ∷ []) ≡ Some (Replay (plain_options []) (codes "a/b") 8)
a-build = refl

one-slot : reading (codes "replay" ∷ []) ≡ Some (Replay (plain_options []) (codes "events") 1)
one-slot = refl

no-slots : reading (codes "replay" ∷ codes "--slots=0" ∷ []) ≡ None
no-slots = refl

a-freezing : reading (codes "--index=a" ∷ codes "freeze" ∷ []) ≡ Some (Freeze (plain_options (codes "--index=a" ∷ [])))
a-freezing = refl

a-freezing-with-slots : reading (codes "freeze" ∷ codes "--slots=2" ∷ []) ≡ None
a-freezing-with-slots = refl

a-build-as-json : reading (codes "replay" ∷ codes "--json" ∷ []) ≡ None
a-build-as-json = refl

no-number : reading (codes "generate" ∷ []) ≡ None
no-number = refl

too-many : reading (codes "generate" ∷ codes "--number=2001" ∷ []) ≡ None
too-many = refl

of-another-command : reading (codes "generate" ∷ codes "--number=1" ∷ codes "--json" ∷ []) ≡ None
of-another-command = refl

as-json : given Json (codes "plan" ∷ codes "--json" ∷ []) ≡ Some []
as-json = refl

a-flag-with-a-value : reading (codes "plan" ∷ codes "--json=true" ∷ []) ≡ None
a-flag-with-a-value = refl

-- the value is all that follows the first `=`
all-behind : given Index (codes "plan" ∷ codes "--index=a=b" ∷ []) ≡ Some (codes "a=b")
all-behind = refl

no-command : reading [] ≡ None
no-command = refl

two-commands : reading (codes "plan" ∷ codes "plan" ∷ []) ≡ None
two-commands = refl

twice : reading (codes "plan" ∷ codes "--index=a" ∷ codes "--index=b" ∷ []) ≡ None
twice = refl

shortened : reading (codes "plan" ∷ codes "--ind=a" ∷ []) ≡ None
shortened = refl

up : is_path (codes "a/../b") ≡ false
up = refl

no-name : is_path (codes "a//b") ≡ false
no-name = refl

-- `ghc-any` is no compiler's name, since it has a `-`
dashed : is_compiler (codes "ghc-any-9.4") ≡ false
dashed = refl

leading-zero : is_compiler (codes "ghc-9.04") ≡ false
leading-zero = refl

leading-zeros : limit_of (codes "007") ≡ Some (At 7)
leading-zeros = refl

negative : limit_of (codes "-1") ≡ Some Unlimited
negative = refl

zero-is-a-limit : limit_of (codes "-0") ≡ Some (At 0)
zero-is-a-limit = refl

two-signs : is_signed (codes "--1") ≡ false
two-signs = refl
