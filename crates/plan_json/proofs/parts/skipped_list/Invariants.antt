-- the items so far
use Rattle.std.proofs.Common.{◌≡◌, map, take}
use Rattle.serde_json.specs.View.{view}
use Rattle.plan_json.specs.Values.{skipped_value}
use Rattle.plan_json.proofs.parts.skipped_list.Given as goal

abbrev pub invariant-loop-file : goal.invariant-loop-file
invariant-loop-file l = map view l.items.items ≡ map skipped_value (take l.file-index l.skipped)
