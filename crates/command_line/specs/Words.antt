-- Which words have a reading.
use Rattle.std.specs.Prelude.{ℕ, Bool, true, ◌==◌, ◌&&◌, ◌||◌, List, [], ◌∷◌, Option, option_map, is_some, nat_le, count_by, find}
use Rattle.std.specs.List.{list_all, list_any}
use Rattle.std.specs.Option.{option_map_or}
use Rattle.std.specs.Str.{bytes_eq}
use Rattle.command_line.specs.CommandName.{command_word, commands, needed_by, taken_by}
use Rattle.command_line.specs.declared.command_name.CommandName.{CommandName}
use Rattle.command_line.specs.declared.option_name.OptionName.{OptionName}
use Rattle.command_line.specs.declared.option_name.OptionName.TheVariants.{Index, Installed, Os, Arch, Compiler, MaxBackjumps, Number, Events, Slots, Json, CountConflicts, MinimizeConflictSet}
use Rattle.command_line.specs.OptionName.{gives, value_in}
use Rattle.command_line.specs.Form.{has_form}

-- every option
abbrev pub options : List OptionName
options = Index ∷ Installed ∷ Os ∷ Arch ∷ Compiler ∷ MaxBackjumps ∷ Number ∷ Events ∷ Slots ∷ Json ∷ CountConflicts ∷ MinimizeConflictSet ∷ []

-- whether a word is that of a command
abbrev pub is_command : CommandName → List ℕ → Bool
is_command command word = bytes_eq word (command_word command)

-- whether a word is that of the command, or gives an option that the command takes
abbrev pub is_known : CommandName → List ℕ → Bool
is_known command word = is_command command word || list_any (λ option. gives option word) (taken_by command)

-- the value that the words give an option
abbrev pub given : OptionName → List (List ℕ) → Option (List ℕ)
given option words = option_map (value_in option) (find (gives option) words)

-- whether the words give the option
abbrev pub is_given : List (List ℕ) → OptionName → Bool
is_given words option = is_some (given option words)

-- the option occurs at most once, and its value is well-formed
abbrev pub is_well_formed : List (List ℕ) → OptionName → Bool
is_well_formed words option = nat_le (count_by (gives option) words) 1 && option_map_or (has_form option) (given option words) true

-- The words fit a command: its word once and options that it takes, in any order. No needed option is missing.
abbrev pub fits : List (List ℕ) → CommandName → Bool
fits words command =
    list_all (is_known command) words
    && ((count_by (is_command command) words == 1 && list_all (is_well_formed words) options) && list_all (is_given words) (needed_by command))

-- the command that the words fit, if any
abbrev pub asked : List (List ℕ) → Option CommandName
asked words = find (fits words) commands
