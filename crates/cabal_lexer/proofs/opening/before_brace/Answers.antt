use Rattle.cabal_lexer.proofs.Texts.{ends_with_brace-le, ends_with_brace-boundary}
use Rattle.cabal_lexer.proofs.opening.before_brace.Goals as goal

pub overflow_sub-args : goal.overflow_sub-args
overflow_sub-args c = ends_with_brace-le c.args.args.now c.requires

pub split_at-requires : goal.split_at-requires
split_at-requires c = ends_with_brace-boundary c.args.args.now c.requires
