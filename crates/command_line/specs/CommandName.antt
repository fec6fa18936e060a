-- The commands: their words, the options that they take, and those that they need.
use Rattle.std.specs.Prelude.{ℕ, List, [], ◌∷◌, codes}
use Rattle.command_line.specs.declared.command_name.CommandName.{CommandName}
use Rattle.command_line.specs.declared.command_name.CommandName.TheVariants.{Plan, Generate, Freeze, Replay}
use Rattle.command_line.specs.declared.option_name.OptionName.{OptionName}
use Rattle.command_line.specs.declared.option_name.OptionName.TheVariants.{Index, Installed, Os, Arch, Compiler, MaxBackjumps, Number, Events, Slots, Json, CountConflicts, MinimizeConflictSet}

-- every command
abbrev pub commands : List CommandName
commands = Plan ∷ Generate ∷ Freeze ∷ Replay ∷ []

-- the word of a command
abbrev pub command_word : CommandName → List ℕ
command_word Plan = codes "plan"
command_word Generate = codes "generate"
command_word Freeze = codes "freeze"
command_word Replay = codes "replay"

-- the options that a command takes
abbrev pub taken_by : CommandName → List OptionName
taken_by Plan = Index ∷ Installed ∷ Os ∷ Arch ∷ Compiler ∷ MaxBackjumps ∷ Json ∷ CountConflicts ∷ MinimizeConflictSet ∷ []
taken_by Generate = MaxBackjumps ∷ Number ∷ []
taken_by Freeze = Index ∷ Installed ∷ Os ∷ Arch ∷ Compiler ∷ MaxBackjumps ∷ []
taken_by Replay = Index ∷ Installed ∷ Os ∷ Arch ∷ Compiler ∷ MaxBackjumps ∷ Events ∷ Slots ∷ []

-- the options that a command needs
abbrev pub needed_by : CommandName → List OptionName
needed_by Plan = []
needed_by Generate = Number ∷ []
needed_by Freeze = []
needed_by Replay = []
