use Rattle.std.proofs.Common.{◌≡◌, ◌++◌, take}
use Rattle.plan_jobs.proofs.needs.add_all.Given as goal

abbrev pub invariant-loop-place : goal.invariant-loop-place
invariant-loop-place l = l.found ≡ l.fn.found ++ take l.place-index l.more
