use Rattle.cabal_lexer.specs.Tree.{tree_of}
use Rattle.description.specs.Description.{cabal_version}
use Rattle.description.proofs.OneOutcome.{one-outcome}
use Rattle.description.proofs.laws.one_outcome.Goals as goal

pub returns : goal.returns
returns c items = one-outcome c.one_first.ensures (cabal_version (tree_of items)) items
