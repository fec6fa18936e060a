use Rattle.std.proofs.Common.{◌-◌, length, take, sym, ◌∙◌, ap, subst, reverse, arith}
use Rattle.std.specs.Str.{IsCharBoundary}
use Rattle.cabal_lexer.specs.Lines.{indent}
use Rattle.plan_types.specs.Bytes.{is_blank}
use Rattle.cabal_lexer.proofs.Texts.{boundary_end, trailing-le, trim_end-take}
use Rattle.text_grammar.proofs.Boundaries.{is_blank-ascii}
use Rattle.cabal_lexer.proofs.lines.trim_end.Goals as goal

pub overflow_sub-text : goal.overflow_sub-text
overflow_sub-text c =
    let text = c.args.text.now in
    omega (arith, trailing-le text, c.trailing.ensures ∙ ap (λ v. indent (reverse v)) c.as_bytes.ensures.value)

pub split_at-requires : goal.split_at-requires
unfolding indent
split_at-requires c =
    let text = c.args.text.now in
    subst (λ n. IsCharBoundary text (length text - n)) (sym (c.trailing.ensures ∙ ap (λ v. indent (reverse v)) c.as_bytes.ensures.value)) (boundary_end is_blank text is_blank-ascii)

pub returns : goal.returns
returns c =
    let text = c.args.text.now in
    c.split_at.ensures.front
    ∙ ap (λ n. take (length text - n) text) (c.trailing.ensures ∙ ap (λ v. indent (reverse v)) c.as_bytes.ensures.value)
    ∙ trim_end-take text
