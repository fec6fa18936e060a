use Rattle.std.proofs.Common.{◌∙◌, ap, take, flat_map}
use Rattle.description.specs.Faults.{in_part}
use Rattle.description.specs.FaultOrder.{earlier, first}
use Rattle.description.proofs.FirstFaults.{first-more}
use Rattle.description.proofs.faults.in_parts.Goals as goal

pub loop-part-preserved : goal.loop-part-preserved
loop-part-preserved c file tells =
    c.earlier-found.ensures ∙ ap (λ v. earlier v c.in_part.result) (c.loop-part.invariant file tells)
    ∙ ap (earlier (first (flat_map (in_part file) (take c.loop-part.part-index c.args.parts.now)))) (c.in_part.ensures file tells)
    ∙ first-more (in_part file) c.args.parts.now c.loop-part.part-index c.part-item.result c.loop-part-test.true c.part-item.is
