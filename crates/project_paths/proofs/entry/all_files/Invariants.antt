use Rattle.std.proofs.Common.{◌≡◌, ◌++◌}
use Rattle.std.specs.Prelude.{flat_map}
use Rattle.project_paths.proofs.entry.all_files.Given as goal

abbrev pub invariant-loop-one : goal.invariant-loop-one
invariant-loop-one l = l.files ++ flat_map (λ f. f.files) l.one-iterator.rest.items ≡ flat_map (λ f. f.files) l.fn.found
