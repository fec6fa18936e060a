use Rattle.std.proofs.Common.{◌≡◌, map, take}
use Rattle.std.specs.Prelude.{filter}
use Rattle.project_paths.specs.Found.{is_cabal_file}
use Rattle.project_paths.specs.Places.{path_in}
use Rattle.project_paths.proofs.found.cabal_in.Given as goal

abbrev pub invariant-loop-name : goal.invariant-loop-name
invariant-loop-name l = l.files ≡ map (λ name. path_in l.dir name.text) (filter is_cabal_file (take l.name-index l.names))
