-- the key at the place is the variable
use Rattle.std.proofs.Common.{sym, ap, ◌∙◌}
use Rattle.count_search.specs.Records.{record_in}
use Rattle.count_search.proofs.Found.{equal, found, placed}
use Rattle.count_search.proofs.records.own_record.Goals as goal

pub returns-then-eq : goal.returns-then-eq
returns-then-eq c =
    let entries = c.args.map.now.entries in
    let key = c.in_ok-key.key.now in
    let same = equal key c.args.v (sym c.eq.ensures ∙ c.if-eq.true) in
    placed entries c.args.place key c.args.v c.in_ok-key.met.now same (sym c.in_ok-key.ensures.entry)
    (ap (record_in entries) (sym same) ∙ sym (found entries key) ∙ c.in_ok-key.ensures.value)
