-- the items so far
use Rattle.std.proofs.Common.{◌≡◌, map, take}
use Rattle.serde_json.specs.View.{view}
use Rattle.plan_json.specs.Values.{variable_value}
use Rattle.plan_json.proofs.parts.variable_list.Given as goal

abbrev pub invariant-loop-var : goal.invariant-loop-var
invariant-loop-var l = map view l.items.items ≡ map (variable_value l.names) (take l.var-index l.vars)
