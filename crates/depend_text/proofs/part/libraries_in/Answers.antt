use Rattle.std.proofs.Common.{sym, subst}
use Rattle.entry_text.specs.Entries.{Pieces}
use Rattle.entry_text.proofs.CommaCuts.{texts}
use Rattle.depend_text.proofs.Fits.{no_libraries}
use Rattle.entry_text.proofs.FoundEntries.{fault_so}
use Rattle.depend_text.proofs.part.libraries_in.Goals as goal

pub returns-clause-fault : goal.returns-clause-fault
returns-clause-fault c =
    let inside = c.args.inside.now in
    fault_so _ _ c.read_each.result
    (no_libraries c.args.package.now inside (texts c.as_slice.result.now) (subst (λ parts. Pieces inside (texts parts)) (sym c.as_slice.ensures.value) c.in_ok-pieces.ensures))
    c.read_each.ensures.fault
