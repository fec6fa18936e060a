-- The command that words mean.
use Rattle.std.specs.Prelude.{ℕ, ◌≤◌, Bool, false, List, [], Option, Some, None, is_some, unwrap_or, codes}
use Rattle.std.specs.Str.{bytes_eq, str_to_ascii_lowercase}
use Rattle.plan_types.specs.declared.condition.Env.{Env}
use Rattle.plan_types.specs.declared.index.Places.{Places}
use Rattle.plan_types.specs.declared.limit.Limit.{Limit}
use Rattle.plan_types.specs.declared.limit.Limit.TheVariants.{At}
use Rattle.command_line.specs.declared.command_name.CommandName.{CommandName}
use Rattle.command_line.specs.declared.command_name.CommandName.TheVariants as command
use Rattle.command_line.specs.declared.option_name.OptionName.TheVariants.{Index, Installed, Os, Arch, Compiler, MaxBackjumps, Number, Events, Slots, Json, CountConflicts, MinimizeConflictSet}
use Rattle.command_line.specs.declared.reading.Command.{Command}
use Rattle.command_line.specs.declared.reading.Command.TheVariants.{Plan, Generate, Freeze, Replay}
use Rattle.command_line.specs.declared.reading.Options.{Options}
use Rattle.command_line.specs.Form.{compiler_name, compiler_digits, number_in, parts_of}
use Rattle.command_line.specs.Words.{asked, given}
use Rattle.conditionals.specs.Environment.{system_of}
use Rattle.version_range.specs.Number.{limit_of}
use Rattle.std.specs.Option.{option_and_then, option_map}

-- the paths of the index and of the installed packages
abbrev pub places_of : Option (List ℕ) → Option (List ℕ) → Places
places_of index installed = record { index = unwrap_or index (codes "index"); installed = unwrap_or installed (codes "installed") }

-- the given compiler, or the default
abbrev pub compiler_or : Option (List ℕ) → List ℕ
compiler_or compiler = unwrap_or compiler (codes "ghc-9.4.7")

-- the environment: names in lower case, the system under its usual name
abbrev pub env_of : Option (List ℕ) → Option (List ℕ) → Option (List ℕ) → Env
env_of os arch compiler = record {
  os = system_of (str_to_ascii_lowercase (unwrap_or os (codes "linux")));
  arch = str_to_ascii_lowercase (unwrap_or arch (codes "x86_64"));
  compiler = str_to_ascii_lowercase (compiler_name (compiler_or compiler));
  compiler_version = record { parts = parts_of (compiler_digits (compiler_or compiler)) };
}

-- the options of words, for a command that takes no flags
abbrev pub plain_options : List (List ℕ) → Options
plain_options words = record {
  places = places_of (given Index words) (given Installed words);
  env = env_of (given Os words) (given Arch words) (given Compiler words);
  limit = option_and_then limit_of (given MaxBackjumps words);
  json = false;
  count_conflicts = false;
  minimize = false;
}

-- the options of words
abbrev pub options_of : List (List ℕ) → Options
options_of words = record (plain_options words) {
  json = is_some (given Json words);
  count_conflicts = is_some (given CountConflicts words);
  minimize = is_some (given MinimizeConflictSet words);
}

-- the default options, with this limit
abbrev pub default_options : Limit → Options
default_options limit = record { places = places_of None None; env = env_of None None None; limit = Some limit; json = false; count_conflicts = false; minimize = false }

-- whether the parser's matches have a flag
abbrev pub is_true : Option (List ℕ) → Bool
is_true None = false
is_true (Some text) = bytes_eq text (codes "true")

-- `generate` with its number, and with the given limit or the default of 4000
abbrev pub generate_of : List (List ℕ) → Command
generate_of words =
    Generate (number_in (unwrap_or (given Number words) [])) (unwrap_or (option_and_then limit_of (given MaxBackjumps words)) (At 4000))

-- how many nodes may run at once, 1 by default
abbrev pub slots_or : Option (List ℕ) → ℕ
slots_or None = 1
slots_or (Some text) = number_in text

-- `replay` with its options, file of events and slots
abbrev pub replay_of : List (List ℕ) → Command
replay_of words = Replay (plain_options words) (unwrap_or (given Events words) (codes "events")) (slots_or (given Slots words))

-- a command with the options of its words
abbrev pub command_with_options : List (List ℕ) → CommandName → Command
command_with_options words command.Plan = Plan (options_of words)
command_with_options words command.Generate = generate_of words
command_with_options words command.Freeze = Freeze (plain_options words)
command_with_options words command.Replay = replay_of words

-- the command that words mean
abbrev pub reading : List (List ℕ) → Option Command
reading words = option_map (command_with_options words) (asked words)

-- bounds of a command's numbers: `generate` makes 1 to 2,000 packages, `replay` has at least one slot
abbrev pub IsBounded : Command → Type 0
IsBounded (Plan options) = Unit {0}
IsBounded (Generate number limit) = (1 ≤ number) × (number ≤ 2000)
IsBounded (Freeze options) = Unit {0}
IsBounded (Replay options events slots) = 1 ≤ slots
