use Rattle.std.proofs.Common.{sym, ◌∙◌, ap}
use Rattle.cabal_lexer.specs.RoundTrip.{unnumbered}
use Rattle.older_headers.proofs.Parts.{zero, section-parts, same-sections}
use Rattle.older_headers.proofs.same.+same.Goals as goal

pub is_same-returns-else-not-are_heads_equal : goal.is_same-returns-else-not-are_heads_equal
is_same-returns-else-not-are_heads_equal t c =
    let heads = c.are_heads_equal.ensures.0 c.if-not-are_heads_equal.false in
    let left = ap unnumbered c.as_slice.ensures in
    let right = ap unnumbered c.as_slice-in-Section-other-2.ensures in
    let one = c.in-Section in
    let other = c.in-Section-other-2 in (
      (λ h. ap zero one.is ∙ same-sections one.line other.line one.name other.other_name one.args other.other_args one.items other.other_items heads.0 heads.1
          (sym left ∙ c.are_same.ensures.0 h ∙ right) ∙ sym (ap zero other.is)),
      (λ h. c.are_same.ensures.1 (left ∙ (section-parts one.line other.line one.name other.other_name one.args other.other_args one.items other.other_items
          (sym (ap zero one.is) ∙ h ∙ ap zero other.is)).2 ∙ sym right)),
    )
