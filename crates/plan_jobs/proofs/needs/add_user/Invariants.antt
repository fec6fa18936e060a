use Rattle.std.proofs.Common.{◌≡◌, length, drop}
use Rattle.plan_jobs.specs.Board.{with_user}
use Rattle.plan_jobs.proofs.needs.add_user.Given as goal

abbrev pub invariant-loop-place : goal.invariant-loop-place
invariant-loop-place l =
    record {
      same : with_user l.user l.users.items (drop l.place-index l.places) ≡ with_user l.user l.fn.users.items l.places;
      count : length l.users.items ≡ length l.fn.users.items;
    }
