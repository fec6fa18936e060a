-- the variable at the place has the record
use Rattle.std.proofs.Common.{Some}
use Rattle.std.proofs.lemmas.Bool.{false≢true}
use Rattle.std.proofs.lemmas.Option.{slice_get_within}
use Rattle.indexmap.specs.IndexMap.{set_value_at}
use Rattle.indexmap.proofs.CallerLemmas.{updates-with_value_at}
use Rattle.qualified_goals.specs.contracts.variable.VarEq.TheImpl.Laws.{laws-law}
use Rattle.count_search.proofs.Found.{changed}
use Rattle.count_search.proofs.records.put_at.Goals as goal

pub returns-in-Some : goal.returns-in-Some
returns-in-Some c v was there w =
    let old = c.args.map.now in
    changed old.entries (set_value_at old.entries c.args.place c.args.met) v w (Some c.args.met)
    ((updates-with_value_at old c.args.place c.args.met laws-law c.get_index_mut.ensures.unique v was there).0 w)

pub returns-in_default : goal.returns-in_default
returns-in_default c v was there w =
    absurd (false≢true (c.in_default.ensures.found.1 (slice_get_within c.args.map.now.entries c.args.place (v, was) there)))
