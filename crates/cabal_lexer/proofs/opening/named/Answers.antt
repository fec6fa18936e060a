use Rattle.std.proofs.Common.{sym, arith}
use Rattle.cabal_lexer.proofs.Texts.{begins_with-boundary}
use Rattle.cabal_lexer.proofs.opening.named.Goals as goal

pub split_at-requires : goal.split_at-requires
split_at-requires c = begins_with-boundary 58 c.args.rest.now (omega arith) c.utf8.rest (sym c.if-begins_with.ensures)
