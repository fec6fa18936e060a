use Rattle.std.proofs.Common.{◌≡◌, ◌++◌}
use Rattle.project_paths.proofs.find.listed.Given as goal

abbrev pub invariant-loop-path : goal.invariant-loop-path
invariant-loop-path l = l.paths ++ l.path-iterator ≡ l.fn.set.keys
