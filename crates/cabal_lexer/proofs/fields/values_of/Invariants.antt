use Rattle.std.proofs.Common.{◌≡◌, ◌++◌, take}
use Rattle.cabal_lexer.specs.Layout.{texts}
use Rattle.cabal_lexer.proofs.fields.values_of.Given as goal

abbrev pub invariant-loop-line : goal.invariant-loop-line
invariant-loop-line l = l.values ≡ l.initial.values ++ texts (take l.line-index l.lines)
