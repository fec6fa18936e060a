use Rattle.std.proofs.lemmas.Result.{err_from_is_err_and}
use Rattle.cabal_lexer.proofs.OneTree.{At-first}
use Rattle.cabal_lexer.proofs.read.items_of.Goals as goal

pub returns-in_err-items-clause-fault : goal.returns-in_err-items-clause-fault
returns-in_err-items-clause-fault c =
    let p = err_from_is_err_and c.from_residual.result c.from_residual.ensures.1 in
    rw (p.1, p.2) (At-first c.args.lines.now _ c.in_err-items.ensures.cut)
