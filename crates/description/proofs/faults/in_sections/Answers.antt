use Rattle.std.proofs.Common.{◌∙◌, ap, take, flat_map}
use Rattle.description.specs.Faults.{in_section}
use Rattle.description.specs.FaultOrder.{earlier, first}
use Rattle.description.proofs.FirstFaults.{first-more}
use Rattle.description.proofs.faults.in_sections.Goals as goal

pub loop-section-preserved : goal.loop-section-preserved
loop-section-preserved c file tells =
    c.earlier-found.ensures ∙ ap (λ v. earlier v c.in_section.result) (c.loop-section.invariant file tells)
    ∙ ap (earlier (first (flat_map (in_section file) (take c.loop-section.section-index c.args.sections.now)))) (c.in_section.ensures file tells)
    ∙ first-more (in_section file) c.args.sections.now c.loop-section.section-index c.section-item.result c.loop-section-test.true c.section-item.is
