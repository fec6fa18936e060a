use Rattle.std.proofs.Common.{◌∙◌, ap, sym, flat_map}
use Rattle.package_declarations.specs.Declarations.{own_name}
use Rattle.description.specs.Faults.{at, in_part, of_name}
use Rattle.description.specs.FaultOrder.{first}
use Rattle.description.proofs.FirstFaults.{first-append, earlier-of}
use Rattle.description.proofs.faults.in_section.Goals as goal

pub returns : goal.returns
returns c file tells =
    let section = c.args.section.now in
    earlier-of c.earlier.ensures (c.of_name-named.ensures file tells) (c.in_parts-inside.ensures file tells ∙ ap (λ p. first (flat_map (in_part file) p)) c.as_slice.ensures)
    ∙ sym (first-append (at section.line (of_name (own_name file.heads) section)) (flat_map (in_part file) section.parts))
