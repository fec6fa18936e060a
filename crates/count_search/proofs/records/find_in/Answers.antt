-- the record that the map has for the variable
use Rattle.std.proofs.Common.{◌≡◌, None, MatchOption, sym, subst, ◌∙◌}
use Rattle.count_search.specs.Records.{record_in, IsPlaced}
use Rattle.count_search.proofs.Found.{found, key-of, placed}
use Rattle.count_search.proofs.records.find_in.Goals as goal

pub returns-in_err-place : goal.returns-in_err-place
returns-in_err-place c =
    let entries = c.args.map.now.entries in
    subst (λ o. MatchOption o (record_in entries c.args.v ≡ None) (λ found. IsPlaced entries c.args.v found.0 found.1)) (sym c.from_residual.ensures)
    (sym (found entries c.args.v) ∙ sym c.in_err-place.ensures.value)

pub returns : goal.returns
returns c =
    let entries = c.args.map.now.entries in
    placed entries c.in_ok-place.place c.in_ok-place.field-0-1.now c.args.v c.in_ok-place.met.now
    (sym (key-of entries c.args.v c.in_ok-place.field-0-1.now (sym c.in_ok-place.ensures.key)))
    c.in_ok-place.ensures.entry (sym (found entries c.args.v) ∙ sym c.in_ok-place.ensures.value)
