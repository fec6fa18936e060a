use Rattle.std.proofs.Common.{◌≡◌, fold, take}
use Rattle.clap.specs.Words.{app_of, with_rule}
use Rattle.command_line.specs.Parser.{bare, command_rule, with_option}
use Rattle.command_line.proofs.parser.parser.Given as goal

-- the parser of the options so far
abbrev pub invariant-loop-option : goal.invariant-loop-option
invariant-loop-option l = app_of l.command ≡ fold with_option (with_rule bare command_rule) (take l.option-index l.option-items)
