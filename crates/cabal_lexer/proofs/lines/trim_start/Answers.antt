use Rattle.std.proofs.Common.{drop, sym, ◌∙◌, ap, subst}
use Rattle.std.specs.Str.{IsCharBoundary}
use Rattle.cabal_lexer.specs.Lines.{indent, trim_start}
use Rattle.plan_types.specs.Bytes.{is_blank}
use Rattle.text_grammar.proofs.Boundaries.{boundary_front, is_blank-ascii}
use Rattle.cabal_lexer.proofs.lines.trim_start.Goals as goal

pub split_at-requires : goal.split_at-requires
unfolding indent
split_at-requires c =
    let text = c.args.text.now in
    subst (λ n. IsCharBoundary text n) (sym (c.indent.ensures.value ∙ ap indent c.as_bytes.ensures.value)) (boundary_front is_blank text is_blank-ascii c.utf8.text)

pub returns : goal.returns
unfolding trim_start
returns c = c.split_at.ensures.back ∙ ap (λ n. drop n c.args.text.now) (c.indent.ensures.value ∙ ap indent c.as_bytes.ensures.value)
