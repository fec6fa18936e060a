use Rattle.std.proofs.Common.{arith}
use Rattle.cabal_lexer.specs.Opening.{lower_case}
use Rattle.cabal_lexer.proofs.Made.{made_braced_field, open_field}
use Rattle.cabal_lexer.proofs.fields.read_braced_field.Goals as goal

pub returns-then-count-more-clause-err : goal.returns-then-count-more-clause-err
returns-then-count-more-clause-err c = λ bound depth braced e b. (
  c.args.line.now,
  c.number.ensures,
  open_field bound depth braced c.args.line.now c.args.more.now (lower_case c.args.name.now) c.run_len-count.result c.run_len-count.ensures.value (omega arith) e b,
)

pub returns-clause-ok : goal.returns-clause-ok
returns-clause-ok c = λ depth braced b.
    made_braced_field depth braced c.args.line.now c.args.more.now _ _ c.number-2.ensures (lower_case c.args.name.now) _
    c.run_len-count.result c.split_at.result.0.now c.in_ok-in_lower_case.ensures c.run_len-count.ensures.value c.split_at.ensures.front (omega arith) c.in_ok-values_of.ensures b
