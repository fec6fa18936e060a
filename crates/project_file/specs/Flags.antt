-- The flags of a `package` section.
use Rattle.std.specs.Prelude.{ℕ, Bool, true, false, ◌==◌, if◌then◌else◌, List, [], ◌∷◌, map, Option, Some, None}
use Rattle.std.specs.Char.{to_ascii_lowercase}
use Rattle.plan_types.specs.Name.{is_flag_name}
use Rattle.plan_types.specs.declared.condition.FlagSet.{FlagSet}
use Rattle.text_grammar.specs.declared.word.Between.TheVariants.{Spaces}
use Rattle.text_grammar.specs.Words.{words}

-- a flag's name is kept in lower case
abbrev pub named_flag : List ℕ → Bool → Option FlagSet
named_flag name on = if is_flag_name name then Some (record { name = map to_ascii_lowercase name; on = on }) else None

-- `+f` and `f` are on, `-f` is off
abbrev pub flag_of : List ℕ → Option FlagSet
flag_of [] = None
flag_of (b ∷ bs) = if b == 43 then named_flag bs true else if b == 45 then named_flag bs false else named_flag (b ∷ bs) true

-- a flag before others, if all are well-formed
abbrev pub with_flag : Option FlagSet → Option (List FlagSet) → Option (List FlagSet)
with_flag None flags = None
with_flag (Some flag) None = None
with_flag (Some flag) (Some flags) = Some (flag ∷ flags)

-- the flags of these words, if all are well-formed
abbrev pub flag_sets : List (List ℕ) → Option (List FlagSet)
flag_sets [] = Some []
flag_sets (word ∷ words) = with_flag (flag_of word) (flag_sets words)

-- the flags of a text
abbrev pub flags_in : List ℕ → Option (List FlagSet)
flags_in text = flag_sets (words Spaces text)
