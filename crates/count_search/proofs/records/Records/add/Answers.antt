-- the map has one more record
use Rattle.std.proofs.Common.{Some, cond, ap, ◌∙◌}
use Rattle.qualified_goals.specs.Variable.{same_var}
use Rattle.count_search.specs.Records.{record_in}
use Rattle.count_search.proofs.Found.{changed}
use Rattle.count_search.proofs.records.Records.add.Goals as goal

pub returns-clause-ok : goal.returns-clause-ok
returns-clause-ok c w =
    changed c.self.inside.map.entries c.insert.new.self.entries c.args.v w (Some c.args.met) (c.in_ok-insert.ensures.updates.0 w)
    ∙ ap (λ l. cond (same_var c.args.v w) (Some c.args.met) (record_in l w)) c.self.view_is
