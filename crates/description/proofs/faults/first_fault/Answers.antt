use Rattle.std.proofs.Common.{◌∙◌, ◌++◌, ap, sym, flat_map}
use Rattle.description.specs.Faults.{in_head, in_section, repeated, unknown_stanzas}
use Rattle.description.specs.FaultOrder.{first}
use Rattle.description.specs.declared.faults.Class.TheVariants.{Component, Common, Flag, Setup}
use Rattle.description.proofs.FirstFaults.{first-append, earlier-of}
use Rattle.description.proofs.faults.first_fault.Goals as goal

pub returns : goal.returns
returns c tells =
    let file = c.args.file.now in
    let slice = c.as_slice-sections.ensures in
    let heads = flat_map in_head file.heads in
    let sections = flat_map (in_section file) file.sections in
    let one = earlier-of c.earlier-found.ensures (c.in_heads-found.ensures ∙ ap (λ h. first (flat_map in_head h)) c.as_slice.ensures)
    (c.in_sections.ensures file tells ∙ ap (λ s. first (flat_map (in_section file) s)) slice) ∙ sym (first-append heads sections) in
    let two = earlier-of c.earlier-found-2.ensures one (c.in_ok-first_repeated.ensures ∙ ap (λ s. first (repeated Component s)) slice) ∙ sym (first-append (heads ++ sections) (repeated Component file.sections)) in
    let three = earlier-of c.earlier-found-3.ensures two (c.in_ok-first_repeated-2.ensures ∙ ap (λ s. first (repeated Common s)) slice) ∙ sym (first-append (heads ++ sections ++ repeated Component file.sections) (repeated Common file.sections)) in
    let four = earlier-of c.earlier-found-4.ensures three (c.in_ok-first_repeated-3.ensures ∙ ap (λ s. first (repeated Flag s)) slice)
    ∙ sym (first-append (heads ++ sections ++ repeated Component file.sections ++ repeated Common file.sections) (repeated Flag file.sections)) in
    let five = earlier-of c.earlier-found-5.ensures four (c.in_ok-first_repeated-4.ensures ∙ ap (λ s. first (repeated Setup s)) slice)
    ∙ sym (first-append (heads ++ sections ++ repeated Component file.sections ++ repeated Common file.sections ++ repeated Flag file.sections) (repeated Setup file.sections)) in
    earlier-of c.earlier-found-6.ensures five (c.in_ok-first_unknown_stanza.ensures ∙ ap (λ s. first (unknown_stanzas s)) slice)
    ∙ sym (first-append (heads ++ sections ++ repeated Component file.sections ++ repeated Common file.sections ++ repeated Flag file.sections ++ repeated Setup file.sections) (unknown_stanzas file.sections))
