use Rattle.std.proofs.Common.{◌∙◌, ap, take, flat_map}
use Rattle.description.specs.Faults.{in_head}
use Rattle.description.specs.FaultOrder.{earlier, first}
use Rattle.description.proofs.FirstFaults.{first-more}
use Rattle.description.proofs.faults.in_heads.Goals as goal

pub loop-field-preserved : goal.loop-field-preserved
loop-field-preserved c =
    c.earlier-found.ensures ∙ ap (λ v. earlier v c.in_head.result) c.loop-field.invariant ∙ ap (earlier (first (flat_map in_head (take c.loop-field.field-index c.args.heads.now)))) c.in_head.ensures
    ∙ first-more in_head c.args.heads.now c.loop-field.field-index c.field-item.result c.loop-field-test.true c.field-item.is
