-- the warnings so far
use Rattle.std.proofs.Common.{◌≡◌, ◌++◌, map, take}
use Rattle.index_assembly.specs.Index.{warning_at}
use Rattle.index_assembly.proofs.index.push_warnings.Given as goal

abbrev pub invariant-loop-line : goal.invariant-loop-line
invariant-loop-line l = l.warnings ≡ l.fn.warnings ++ map (warning_at l.fn.local.path) (take l.line-index l.fn.local.source.description.warnings)
