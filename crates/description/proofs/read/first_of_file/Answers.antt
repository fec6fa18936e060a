use Rattle.std.proofs.Common.{◌∙◌, sym, flat_map, map}
use Rattle.description.specs.Faults.{bad_visibility_at, file_faults}
use Rattle.stanza_imports.specs.Imports.{with_imports_replaced}
use Rattle.description.proofs.FirstFaults.{first-append, earlier-of}
use Rattle.stanza_imports.specs.Parts.{bad_visibilities}
use Rattle.description.proofs.read.first_of_file.Goals as goal

pub returns : goal.returns
returns c tells stand =
    let file = c.args.file.now in
    earlier-of c.earlier.ensures (c.in_ok-written.ensures tells) (c.bad_visibility.ensures file.sections stand)
    ∙ sym (first-append (file_faults file) (map bad_visibility_at (flat_map bad_visibilities (with_imports_replaced file.sections))))
