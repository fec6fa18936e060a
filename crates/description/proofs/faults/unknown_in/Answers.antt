use Rattle.std.proofs.Common.{◌∙◌, ap, take, flat_map, List}
use Rattle.section_syntax.specs.declared.part.SectionPart.{SectionPart}
use Rattle.description.specs.Faults.{at}
use Rattle.description.specs.NamesBefore.{unknown_of}
use Rattle.description.specs.FaultOrder.{earlier, first}
use Rattle.description.specs.declared.fault_order.At.{At}
use Rattle.description.proofs.FirstFaults.{first-more}
use Rattle.description.proofs.faults.unknown_in.Goals as goal

pub loop-part-preserved : goal.loop-part-preserved
loop-part-preserved c =
    let of : SectionPart → List At = λ part. at part.line (unknown_of c.args.known.now part.said) in
    c.earlier-found.ensures ∙ ap (λ v. earlier v c.unknown.result) c.loop-part.invariant
    ∙ ap (earlier (first (flat_map of (take c.loop-part.part-index c.args.parts.now)))) c.unknown.ensures
    ∙ first-more of c.args.parts.now c.loop-part.part-index c.part-item.result c.loop-part-test.true c.part-item.is
