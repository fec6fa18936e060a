-- the items so far, and those of the other identifiers
use Rattle.std.proofs.Common.{◌≡◌, ◌++◌, map}
use Rattle.serde_json.specs.Data.{string}
use Rattle.serde_json.specs.View.{view}
use Rattle.plan_json.proofs.parts.id_values.Given as goal

abbrev pub invariant-loop-id : goal.invariant-loop-id
invariant-loop-id l = map view l.items.items ++ map (λ id. string id) l.id-iterator ≡ map (λ id. string id) l.ids.keys
