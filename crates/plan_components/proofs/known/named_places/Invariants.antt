-- the places so far, and the later ones
use Rattle.std.proofs.Common.{◌≡◌, ℕ, List, ◌++◌, drop}
use Rattle.keyed_lists.specs.Lists.{items_at}
use Rattle.plan_types.specs.Bytes.{same_text}
use Rattle.plan_components.specs.Known.{has_name}
use Rattle.plan_components.specs.Wanted.{places, places_from}
use Rattle.plan_components.proofs.known.named_places.Given as goal

abbrev pub invariant-loop-place : goal.invariant-loop-place
invariant-loop-place l = (name : List ℕ) → items_at same_text l.named name ++ places_from l.place (has_name name) (drop l.place l.components) ≡ places (has_name name) l.components
