use Rattle.std.proofs.Common.{◌≡◌, ◌++◌, take}
use Rattle.cabal_lexer.specs.Canonical.{value_lines}
use Rattle.cabal_lexer.proofs.print.print_values.Given as goal

abbrev pub invariant-loop-value : goal.invariant-loop-value
invariant-loop-value l = l.text ≡ l.initial.text ++ value_lines l.indent (take l.value-index l.values)
