-- the lines so far
use Rattle.std.proofs.Common.{◌≡◌, ◌++◌, take}
use Rattle.std.specs.List.{flat_map}
use Rattle.plan_print.specs.Choice.{line_of}
use Rattle.plan_print.proofs.texts.push_choices.Given as goal

abbrev pub invariant-loop-choice : goal.invariant-loop-choice
invariant-loop-choice l = l.text ≡ l.fn.text ++ flat_map (line_of l.word l.index l.names) (take l.choice-index l.choices)
