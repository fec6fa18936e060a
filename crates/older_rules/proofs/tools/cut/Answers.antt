use Rattle.std.proofs.Common.{sym, ap, ◌∙◌, subst}
use Rattle.std.specs.List.{prefix_len}
use Rattle.std.specs.Str.{IsCharBoundary}
use Rattle.text_grammar.proofs.Boundaries.{boundary_front}
use Rattle.older_rules.specs.Tools.{is_tool_byte}
use Rattle.older_rules.proofs.ToolBytes.{is_tool_byte-ascii}
use Rattle.older_rules.proofs.tools.cut.Goals as goal

pub split_at-requires : goal.split_at-requires
split_at-requires c =
    let text = c.args.entry.now in
    subst (λ n. IsCharBoundary text n) (sym (c.name_len.ensures.count ∙ ap (prefix_len is_tool_byte) c.as_bytes.ensures.value)) (boundary_front is_tool_byte text is_tool_byte-ascii c.utf8.entry)
