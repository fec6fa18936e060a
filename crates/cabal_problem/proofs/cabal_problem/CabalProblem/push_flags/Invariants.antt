-- the flags so far
use Rattle.std.proofs.Common.{◌≡◌, ◌++◌, take}
use Rattle.cabal_problem.specs.Rows.{flag_row, in_pairs}
use Rattle.cabal_problem.proofs.cabal_problem.CabalProblem.push_flags.Given as goal

abbrev pub invariant-loop-place : goal.invariant-loop-place
invariant-loop-place l = l.found ≡ l.fn.found ++ in_pairs (flag_row l.self.settings.now.project l.self.names l.owner) (take l.place l.flags) (take l.place l.numbers)
