-- the items so far, and the rest
use Rattle.std.proofs.Common.{◌≡◌, ◌++◌, drop, map, zip}
use Rattle.serde_json.specs.View.{view}
use Rattle.plan_json.specs.Values.{without_value}
use Rattle.plan_json.proofs.parts.freed_list.Given as goal

abbrev pub invariant-loop-kept : goal.invariant-loop-kept
invariant-loop-kept l =
    map view l.items.items ++ map (without_value l.index l.names) (zip l.rest (drop l.kept-index l.maps)) ≡ map (without_value l.index l.names) (zip l.set l.maps)
