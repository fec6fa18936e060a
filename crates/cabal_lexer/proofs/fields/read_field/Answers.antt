use Rattle.std.proofs.Common.{◌+◌, ◌∙◌, ap}
use Rattle.cabal_lexer.specs.Opening.{lower_case}
use Rattle.cabal_lexer.proofs.Runs.{run_len}
use Rattle.cabal_lexer.proofs.Made.{made_field}
use Rattle.cabal_lexer.proofs.fields.read_field.Goals as goal

pub returns-clause-ok : goal.returns-clause-ok
returns-clause-ok c = λ depth b.
    made_field depth c.args.braced c.args.line.now c.args.more.now c.number.result _ c.number.ensures (lower_case c.args.name.now) c.args.first.now _
    c.run_len-count.result c.split_at.result.0.now c.in_ok-in_lower_case.ensures
    (c.run_len-count.ensures.value ∙ ap (λ i. run_len (i + 1) c.args.braced c.args.more.now) c.indent.ensures.value)
    c.split_at.ensures.front c.in_ok-values_of.ensures b
