use Rattle.std.proofs.Common.{◌≡◌, ◌+◌, ◌++◌, ◌≤◌, length, vec_capacity, vec_len}
use Rattle.choice_stack.proofs.growth.list_all.Given as goal

abbrev pub invariant-loop-d : goal.invariant-loop-d
invariant-loop-d l = record {
  items : l.listed.items ≡ l.initial.listed.items ++ l.yielded;
  count : vec_len l.listed ≡ vec_len l.initial.listed + length l.yielded;
  room : vec_capacity l.initial.listed ≤ vec_capacity l.listed;
}
