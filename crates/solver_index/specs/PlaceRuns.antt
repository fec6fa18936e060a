-- Places kept as runs.
use Rattle.std.specs.Prelude.{ℕ, List, flat_map}
use Rattle.solver_index.specs.declared.place_runs.PlaceRun.{PlaceRun}
use Rattle.solver_index.specs.Places.{between}

-- the places in these runs
abbrev pub places_in : List PlaceRun → List ℕ
places_in runs = flat_map (λ run. between run.from run.to) runs
