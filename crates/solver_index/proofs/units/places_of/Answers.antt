use Rattle.std.proofs.Common.{ap, sym, ◌∙◌, Some}
use Rattle.std.proofs.lemmas.Option.{slice_get-get_or}
use Rattle.solver_index.proofs.units.places_of.Goals as goal

pub returns-in-Some : goal.returns-in-Some
returns-in-Some c = λ packages are.
    let units = c.args.units.now in
    let found = c.in-Some.found.now in
    let read = c.in-Some.ensures.lookup in
    c.items_at.ensures ∙ are.each c.args.p found (slice_get-get_or units c.args.p found read.3.0 ∙ ap Some (sym read.1)) c.args.id.now
