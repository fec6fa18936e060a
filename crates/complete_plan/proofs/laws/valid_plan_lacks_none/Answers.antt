use Rattle.complete_plan.specs.Valid.{selected}
use Rattle.complete_plan.proofs.laws.valid_plan_lacks_none.Goals as goal

pub returns : goal.returns
returns c v lines plan = c.no_node_is_lacking.ensures (selected v) lines plan (c.every_node_has_a_line.ensures v)
