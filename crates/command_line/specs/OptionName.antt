-- The options. Each is one word: `--name=value`, split at the first `=`, or `--name` for a flag.
use Rattle.std.specs.Prelude.{ℕ, Bool, List, [], ◌++◌, codes, length, drop, nat_eq}
use Rattle.std.specs.List.{starts_with}
use Rattle.std.specs.Str.{bytes_eq}
use Rattle.command_line.specs.declared.option_name.OptionKind.{OptionKind}
use Rattle.command_line.specs.declared.option_name.OptionKind.TheVariants.{Valued, Flag}
use Rattle.command_line.specs.declared.option_name.OptionName.{OptionName}
use Rattle.command_line.specs.declared.option_name.OptionName.TheVariants.{Index, Installed, Os, Arch, Compiler, MaxBackjumps, Number, Events, Slots, Json, CountConflicts, MinimizeConflictSet}

-- whether the word of an option has a value
abbrev pub kind_of : OptionName → OptionKind
kind_of Index = Valued
kind_of Installed = Valued
kind_of Os = Valued
kind_of Arch = Valued
kind_of Compiler = Valued
kind_of MaxBackjumps = Valued
kind_of Number = Valued
kind_of Events = Valued
kind_of Slots = Valued
kind_of Json = Flag
kind_of CountConflicts = Flag
kind_of MinimizeConflictSet = Flag

-- the name of an option
abbrev pub name_of : OptionName → List ℕ
name_of Index = codes "index"
name_of Installed = codes "installed"
name_of Os = codes "os"
name_of Arch = codes "arch"
name_of Compiler = codes "compiler"
name_of MaxBackjumps = codes "max-backjumps"
name_of Number = codes "number"
name_of Events = codes "events"
name_of Slots = codes "slots"
name_of Json = codes "json"
name_of CountConflicts = codes "count-conflicts"
name_of MinimizeConflictSet = codes "minimize-conflict-set"

-- the text after the name: `=` or nothing
abbrev pub sign_of : OptionKind → List ℕ
sign_of Valued = codes "="
sign_of Flag = []

-- the part of the word before the value
abbrev pub prefix_of : OptionName → List ℕ
prefix_of option = codes "--" ++ name_of option ++ sign_of (kind_of option)

-- whether a word gives an option of this kind and prefix
abbrev pub gives_as : OptionKind → List ℕ → List ℕ → Bool
gives_as Valued prefix word = starts_with nat_eq word prefix
gives_as Flag prefix word = bytes_eq word prefix

-- whether the word gives the option
abbrev pub gives : OptionName → List ℕ → Bool
gives option word = gives_as (kind_of option) (prefix_of option) word

-- the value in the word of an option; that of a flag is empty
abbrev pub value_in : OptionName → List ℕ → List ℕ
value_in option word = drop (length (prefix_of option)) word
