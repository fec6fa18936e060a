use Rattle.std.proofs.Common.{◌∙◌, ◌+◌, ap, sym, drop, refl, arith, flat_map, List}
use Rattle.section_syntax.specs.declared.part.SectionPart.{SectionPart}
use Rattle.description.proofs.RepeatedNames.{unknown-is, unknown_from, unknown_with}
use Rattle.description.specs.NamesBefore.{unknown_of}
use Rattle.description.specs.Faults.{at}
use Rattle.description.specs.FaultOrder.{earlier, first}
use Rattle.description.specs.declared.fault_order.At.{At}
use Rattle.description.proofs.FirstFaults.{first-append, earlier-earlier, earlier-none, earlier-of}
use Rattle.std.proofs.lemmas.List.{drop_all}
use Rattle.common_laws.specs.Lists.{drop_at}
use Rattle.description.proofs.faults.first_unknown_stanza.Goals as goal

pub loop-section-preserved : goal.loop-section-preserved
loop-section-preserved c =
    let loop = c.loop-section in
    let rest = drop (loop.section-index + 1) c.args.sections.now in
    let section = c.section-item.result in
    let of : SectionPart → List At = λ part. at part.line (unknown_of loop.known part.said) in
    earlier-of (ap (λ v. earlier v (first (unknown_from c.know.new.known rest))) (earlier-of c.earlier-found.ensures refl (c.unknown_in.ensures ∙ ap (λ p. first (flat_map of p)) c.as_slice.ensures)))
    refl (ap (λ b. first (unknown_from b rest)) c.in_ok-know.ensures)
    ∙ sym (earlier-earlier loop.found (first (unknown_with loop.known section)) (first (unknown_from _ rest)))
    ∙ ap (earlier loop.found) (sym (first-append (unknown_with loop.known section) _))
    ∙ ap (λ s. earlier loop.found (first (unknown_from loop.known s))) (sym (drop_at c.args.sections.now loop.section-index section c.loop-section-test.true c.section-item.is))
    ∙ loop.invariant

pub returns : goal.returns
returns c =
    let loop = c.loop-section in
    sym (earlier-none loop.found)
    ∙ ap (λ s. earlier loop.found (first (unknown_from loop.known s))) (sym (drop_all loop.section-index c.args.sections.now (omega arith)))
    ∙ loop.invariant
    ∙ ap first (sym (unknown-is c.args.sections.now))
