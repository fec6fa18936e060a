use Rattle.std.proofs.Common.{◌≡◌, map, take}
use Rattle.std.specs.Prelude.{filter}
use Rattle.project_paths.specs.Places.{is_matched, place_in}
use Rattle.project_paths.specs.declared.matched_paths.MatchedPath.TheVariants.{Listed}
use Rattle.project_paths.proofs.matched_paths.matching_names.Given as goal

abbrev pub invariant-loop-name : goal.invariant-loop-name
invariant-loop-name l = l.found ≡ map (λ name. Listed (place_in l.dir name)) (filter (is_matched l.pattern) (take l.name-index l.names))
