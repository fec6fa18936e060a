-- The forms of the values of options, and their meanings.
use Rattle.std.specs.Prelude.{ℕ, Bool, ◌==◌, ◌&&◌, ◌||◌, not, List, length, map, codes, Option, Some, None, is_some, nat_le}
use Rattle.std.specs.List.{list_all, slice_split, before_last, after_last}
use Rattle.std.specs.Str.{bytes_eq}
use Rattle.plan_types.specs.Bytes.{begins_with}
use Rattle.plan_types.specs.Name.{is_component_name}
use Rattle.plan_types.specs.declared.limit.Limit.{Limit}
use Rattle.plan_types.specs.declared.limit.Limit.TheVariants.{Unlimited, At}
use Rattle.version_range.specs.Number.{is_count, limit_of}
use Rattle.version_range.specs.Version.{number_after}
use Rattle.condition_text.specs.Grammar.{is_compiler_name}
use Rattle.command_line.specs.declared.option_name.OptionName.{OptionName}
use Rattle.command_line.specs.declared.option_name.OptionName.TheVariants.{Index, Installed, Os, Arch, Compiler, MaxBackjumps, Number, Events, Slots, Json, CountConflicts, MinimizeConflictSet}

-- a name in a path: not empty, not `.` or `..`
abbrev pub is_directory : List ℕ → Bool
is_directory name = not (length name == 0) && (not (bytes_eq name (codes ".")) && not (bytes_eq name (codes "..")))

-- names joined by `/`
abbrev pub is_path : List ℕ → Bool
is_path text = list_all is_directory (slice_split (λ b. b == 47) text)

-- one to nine digits without a leading zero, unless it is `0`
abbrev pub is_part : List ℕ → Bool
is_part text = is_count text && (not (begins_with 48 text) || length text == 1)

-- a version's text: numbers joined by points
abbrev pub is_version_text : List ℕ → Bool
is_version_text text = list_all is_part (slice_split (λ b. b == 46) text)

-- the numbers of a version's text
abbrev pub parts_of : List ℕ → List ℕ
parts_of text = map (number_after 0) (slice_split (λ b. b == 46) text)

-- the name of a compiler: the part before the last `-`
abbrev pub compiler_name : List ℕ → List ℕ
compiler_name text = before_last (λ b. b == 45) text

-- the version's text of a compiler: the part after the last `-`
abbrev pub compiler_digits : List ℕ → List ℕ
compiler_digits text = after_last (λ b. b == 45) text

-- whether a text is a compiler: a name and a version
abbrev pub is_compiler : List ℕ → Bool
is_compiler text = is_compiler_name (compiler_name text) && is_version_text (compiler_digits text)

-- whether a text is a number, possibly with a `-` before it
abbrev pub is_signed : List ℕ → Bool
is_signed text = is_some (limit_of text)

-- the number of a limit, 0 without one
abbrev pub counted : Option Limit → ℕ
counted (Some (At number)) = number
counted (Some Unlimited) = 0
counted None = 0

-- the number of a text, 0 for a text that isn't a number
abbrev pub number_in : List ℕ → ℕ
number_in text = counted (limit_of text)

-- one to four digits, from 1 to 2,000
abbrev pub is_number : List ℕ → Bool
is_number text = nat_le (length text) 4 && (is_count text && (nat_le 1 (number_in text) && nat_le (number_in text) 2000))

-- one to three digits, from 1 to 999
abbrev pub is_slot_count : List ℕ → Bool
is_slot_count text = nat_le (length text) 3 && (is_count text && (nat_le 1 (number_in text) && nat_le (number_in text) 999))

-- whether a value has the form of its option; a flag's value is empty
abbrev pub has_form : OptionName → List ℕ → Bool
has_form Index value = is_path value
has_form Installed value = is_path value
has_form Os value = is_component_name value
has_form Arch value = is_component_name value
has_form Compiler value = is_compiler value
has_form MaxBackjumps value = is_signed value
has_form Number value = is_number value
has_form Events value = is_path value
has_form Slots value = is_slot_count value
has_form Json value = length value == 0
has_form CountConflicts value = length value == 0
has_form MinimizeConflictSet value = length value == 0
