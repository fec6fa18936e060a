-- The parser: one required command, and an argument for each option, without help and version flags.
use Rattle.std.specs.Prelude.{◌≡◌, ℕ, Bool, true, false, List, Option, Some, codes, fold, is_some}
use Rattle.clap.specs.Walk.{Rule}
use Rattle.clap.specs.Matches.{first_value}
use Rattle.clap.specs.declared.parser.matches.Found.{Found}
use Rattle.clap.specs.Simple.{App, new_app, new_rule, on_top, with_rule}
use Rattle.clap.specs.declared.builder.action.ArgAction.{ArgAction}
use Rattle.clap.specs.declared.builder.action.ArgAction.TheVariants.{Set, SetTrue}
use Rattle.command_line.specs.declared.option_name.OptionKind.{OptionKind}
use Rattle.command_line.specs.declared.option_name.OptionKind.TheVariants.{Valued, Flag}
use Rattle.command_line.specs.declared.option_name.OptionName.{OptionName}
use Rattle.command_line.specs.OptionName.{kind_of, name_of}
use Rattle.command_line.specs.Words.{given, options}

-- one word is the command
abbrev pub command_rule : Rule
command_rule = record (new_rule (codes "command")) { required = true; action = Some Set }

-- the action at an option: take its value, or set the flag
abbrev pub action_as : OptionKind → ArgAction
action_as Valued = Set
action_as Flag = SetTrue

-- the rule of an option of a kind and a name
abbrev pub rule_as : OptionKind → List ℕ → Rule
rule_as kind name = record (new_rule name) { long = Some name; action = Some (action_as kind) }

-- the rule of an option
abbrev pub option_rule : OptionName → Rule
option_rule option = rule_as (kind_of option) (name_of option)

-- the value of a flag in the parser's matches
abbrev pub truth_text : Bool → List ℕ
truth_text true = codes "true"
truth_text false = codes "false"

-- the value of an option in the parser's matches, by the value that words give it
abbrev pub found_as : OptionKind → Option (List ℕ) → Option (List ℕ)
found_as Valued value = value
found_as Flag value = Some (truth_text (is_some value))

-- the value of an option in the parser's matches, by the words
abbrev pub found_in : OptionName → List (List ℕ) → Option (List ℕ)
found_in option words = found_as (kind_of option) (given option words)

-- matches have for each option its value by the words
abbrev pub Finds : List (List ℕ) → Found → Type 0
Finds words found = (option : OptionName) → first_value found (name_of option) ≡ found_in option words

-- the parser without rules
abbrev pub bare : App
bare = on_top (λ s. record s { no_binary_name = true; disable_help_flag = true; disable_version_flag = true }) (new_app (codes "cabal-plan"))

-- the parser with one more option
abbrev pub with_option : App → OptionName → App
with_option app option = with_rule app (option_rule option)

-- the parser of all words
abbrev pub parser : App
parser = fold with_option (with_rule bare command_rule) options
