use Rattle.std.proofs.Common.{◌≡◌, ◌++◌, take}
use Rattle.cabal_lexer.specs.Canonical.{items_text}
use Rattle.cabal_lexer.proofs.print.+print.Given as goal

abbrev pub invariant-print_items-loop-item : goal.invariant-print_items-loop-item
invariant-print_items-loop-item l = l.text ≡ l.initial.text ++ items_text (take l.item-index l.items) l.indent
