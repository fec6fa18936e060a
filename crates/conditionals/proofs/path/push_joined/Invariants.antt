use Rattle.std.proofs.Common.{◌≡◌, ◌++◌, drop}
use Rattle.conditionals.specs.Paths.{followed}
use Rattle.conditionals.proofs.path.push_joined.Given as goal

abbrev pub invariant-loop-path : goal.invariant-loop-path
invariant-loop-path l = l.paths ++ followed (drop l.path-index l.path-items) l.second ≡ l.fn.paths ++ followed l.first l.second
