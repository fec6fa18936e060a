use Rattle.std.proofs.Common.{sym, ◌∙◌, ap, subst}
use Rattle.std.specs.Str.{IsCharBoundary}
use Rattle.older_layout.specs.Cuts.{brace_len}
use Rattle.older_layout.proofs.Cutting.{brace-boundary}
use Rattle.older_layout.proofs.cut.item_cut.Goals as goal

pub split_at-requires : goal.split_at-requires
split_at-requires c =
    let text = c.args.text.now in
    subst (λ n. IsCharBoundary text n) (sym (c.brace_len.ensures ∙ ap brace_len c.as_bytes-2.ensures.value)) (brace-boundary text)
