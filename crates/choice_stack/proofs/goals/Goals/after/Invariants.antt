use Rattle.std.proofs.Common.{◌≡◌, find, length}
use Rattle.choice_stack.specs.Open.{is_behind}
use Rattle.choice_stack.proofs.OpenVariables.{vars_from, StandsAt}
use Rattle.choice_stack.proofs.goals.Goals.after.Given as goal

abbrev pub invariant-loop-at : goal.invariant-loop-at
invariant-loop-at l = record {
  rest : find (is_behind l.v) l.self-inside.mentions.row.linked ≡ find (is_behind l.v) (vars_from l.self-inside.mentions.row l.at);
  stands : StandsAt l.self-inside.mentions.row l.at;
}

abbrev pub decreases-loop-at : goal.decreases-loop-at
decreases-loop-at l = length (vars_from l.self-inside.mentions.row l.at)
