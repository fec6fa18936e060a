use Rattle.std.proofs.Common.{None}
use Rattle.choice_problem.proofs.PartialMaps.{updated}
use Rattle.choice_problem.proofs.table.Table.remove.Goals as goal

pub returns : goal.returns
returns c w =
    updated c.self.inside.entries.entries c.swap_remove.new.self.entries c.args.self.now c.args.v w None c.self.view_is
    (c.swap_remove.ensures.updates.0 w)
