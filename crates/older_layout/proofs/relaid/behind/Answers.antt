use Rattle.std.proofs.Common.{◌∙◌, ap, sym}
use Rattle.older_layout.specs.Relaid.{begins_with_brace}
use Rattle.older_layout.proofs.Turns.{front-boundary}
use Rattle.older_layout.proofs.relaid.behind.Goals as goal

pub split_at-requires : goal.split_at-requires
split_at-requires c =
    front-boundary c.text-text.result.now (ap begins_with_brace (sym c.as_bytes.ensures.value) ∙ sym c.if-begins_with_brace.ensures) c.text-text.utf8
