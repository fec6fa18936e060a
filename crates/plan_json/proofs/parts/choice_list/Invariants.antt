-- the items so far
use Rattle.std.proofs.Common.{◌≡◌, map, take}
use Rattle.serde_json.specs.View.{view}
use Rattle.plan_json.specs.Values.{choice_value}
use Rattle.plan_json.proofs.parts.choice_list.Given as goal

abbrev pub invariant-loop-choice : goal.invariant-loop-choice
invariant-loop-choice l = map view l.items.items ≡ map (choice_value l.index l.names) (take l.choice-index l.trail)
