-- the items so far
use Rattle.std.proofs.Common.{◌≡◌, map, take}
use Rattle.serde_json.specs.View.{view}
use Rattle.plan_json.specs.Values.{warning_value}
use Rattle.plan_json.proofs.parts.warning_list.Given as goal

abbrev pub invariant-loop-warning : goal.invariant-loop-warning
invariant-loop-warning l = map view l.items.items ≡ map warning_value (take l.warning-index l.warnings)
