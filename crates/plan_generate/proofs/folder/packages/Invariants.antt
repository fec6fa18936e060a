-- the numbers so far
use Rattle.std.proofs.Common.{◌≡◌, ◌-◌, ◌≤◌}
use Rattle.std.specs.List.{range_with_len}
use Rattle.plan_generate.proofs.folder.packages.Given as goal

abbrev pub invariant-loop-number : goal.invariant-loop-number
invariant-loop-number l = record { some : 1 ≤ l.number; all : l.all ≡ range_with_len 1 (l.number - 1) }
