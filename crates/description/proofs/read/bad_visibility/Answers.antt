use Rattle.std.proofs.Common.{sym, ap, ◌∙◌, flat_map}
use Rattle.stanza_imports.specs.Imports.{with_imports_replaced}
use Rattle.stanza_imports.specs.Parts.{bad_visibilities}
use Rattle.description.proofs.FirstBadLine.{as_fault, first_fault_of}
use Rattle.description.proofs.read.bad_visibility.Goals as goal

pub returns-in-Some : goal.returns-in-Some
returns-in-Some c sections stand =
    ap as_fault (sym c.in-Some.is ∙ c.first_bad_visibility.ensures sections stand)
    ∙ first_fault_of (flat_map bad_visibilities (with_imports_replaced sections))

pub returns-in-None : goal.returns-in-None
returns-in-None c sections stand =
    ap as_fault (sym c.in-None.is ∙ c.first_bad_visibility.ensures sections stand)
    ∙ first_fault_of (flat_map bad_visibilities (with_imports_replaced sections))
