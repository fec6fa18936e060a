use Rattle.std.proofs.Common.{sym, ◌∙◌, ap, subst}
use Rattle.std.specs.Str.{IsCharBoundary}
use Rattle.cabal_lexer.specs.Opening.{is_name_byte, name_len}
use Rattle.cabal_lexer.proofs.Texts.{is_name_byte-ascii}
use Rattle.text_grammar.proofs.Boundaries.{boundary_front}
use Rattle.older_layout.proofs.cut.after_name.Goals as goal

pub split_at-requires : goal.split_at-requires
unfolding name_len
split_at-requires c =
    let text = c.args.text.now in
    subst (λ n. IsCharBoundary text n) (sym (c.name_len.ensures ∙ ap name_len c.as_bytes.ensures.value)) (boundary_front is_name_byte text is_name_byte-ascii c.utf8.text)
