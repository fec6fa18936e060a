-- the places so far
use Rattle.std.proofs.Common.{◌≡◌}
use Rattle.std.specs.List.{filter}
use Rattle.keyed_lists.specs.Lists.{items_at}
use Rattle.qualified_goals.specs.Names.{Name}
use Rattle.solver_index.specs.Allowed.{is_unit}
use Rattle.solver_index.specs.Places.{entry_at, rising}
use Rattle.plan_types.specs.Bytes.{same_text}
use Rattle.solver_index.proofs.units.unit_places.Given as goal

abbrev pub invariant-loop-place : goal.invariant-loop-place
invariant-loop-place l = (id : Name) → items_at same_text l.units id ≡ filter (λ i. is_unit id (entry_at l.entries i)) (rising l.place)
