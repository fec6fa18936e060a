use Rattle.std.proofs.Common.{◌≡◌, drop, find}
use Rattle.command_line.specs.Words.{fits}
use Rattle.command_line.proofs.words.command_among.Given as goal

-- the words fit none of the commands so far
abbrev pub invariant-loop-command : goal.invariant-loop-command
invariant-loop-command l = find (fits l.words) l.commands ≡ find (fits l.words) (drop l.command-index l.commands)
