use Rattle.std.proofs.Common.{sym, ap, ◌∙◌}
use Rattle.std.specs.List.{list_any}
use Rattle.plan_types.specs.Bytes.{same_text}
use Rattle.plan_nodes.proofs.Kept.{goes, stays, some_line}
use Rattle.plan_nodes.proofs.once.keep_by_line.Goals.{then-not-contains+in_ok-insert+in_ok-push, else-not-contains}
use Rattle.plan_nodes.proofs.once.keep_by_line.Goals as goal

pub returns-clause-kept : goal.returns-clause-kept
returns-clause-kept c =
    let lines = c.args.lines.keys in
    let asked = some_line c.args.node lines c.args.kept.now c.requires ∙ sym (c.contains.ensures ∙ ap (λ t. list_any (same_text t) lines) c.in_ok-line.ensures) in
    elim c.if-not-contains.branch [
      | then-not-contains+in_ok-insert+in_ok-push w ↦ w.kept-is ∙ w.in_ok-push.ensures.ok ∙ goes c.args.node c.args.kept.now (asked ∙ w.if-not-contains.true)
      | else-not-contains w ↦ w.kept-is ∙ stays c.args.node c.args.kept.now (asked ∙ w.if-not-contains.false)
    ]
