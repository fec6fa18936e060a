use Rattle.std.proofs.Common.{◌≡◌, take}
use Rattle.std.specs.Prelude.{count_by}
use Rattle.plan_jobs.specs.Board.{is_open}
use Rattle.plan_jobs.proofs.needs.count_open.Given as goal

abbrev pub invariant-loop-place : goal.invariant-loop-place
invariant-loop-place l = l.count ≡ count_by (is_open l.states) (take l.place-index l.places)
