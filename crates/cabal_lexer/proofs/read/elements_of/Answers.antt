use Rattle.std.proofs.Common.{◌≡◌, ◌∙◌}
use Rattle.cabal_lexer.specs.Lines.{kept_lines}
use Rattle.cabal_lexer.proofs.OneTree.{fault-of_lines}
use Rattle.cabal_lexer.proofs.read.elements_of.Goals as goal

pub returns-clause-fault : goal.returns-clause-fault
returns-clause-fault c =
    let lines : c.as_slice.result.now ≡ kept_lines c.args.text.now = c.as_slice.ensures.value ∙ c.in_ok-lines.ensures in
    fault-of_lines c.args.text.now c.as_slice.result.now c.items_of.result lines c.utf8.text c.items_of.ensures.fault
