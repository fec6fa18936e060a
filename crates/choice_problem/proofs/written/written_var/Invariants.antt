-- none of the variables so far is the one
use Rattle.std.proofs.Common.{◌≡◌, drop}
use Rattle.choice_problem.specs.Written.{order_of, barred_of}
use Rattle.choice_problem.proofs.written.written_var.Given as goal

abbrev pub invariant-loop-w : goal.invariant-loop-w
invariant-loop-w l = record {
  order : order_of l.variables l.v ≡ order_of (drop l.w-index l.variables) l.v;
  barred : barred_of l.variables l.v ≡ barred_of (drop l.w-index l.variables) l.v;
}
