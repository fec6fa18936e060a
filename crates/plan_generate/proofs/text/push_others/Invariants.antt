-- the names so far
use Rattle.std.proofs.Common.{◌≡◌, ◌++◌, take}
use Rattle.std.specs.List.{flat_map}
use Rattle.plan_generate.specs.Text.{name_behind}
use Rattle.plan_generate.proofs.text.push_others.Given as goal

abbrev pub invariant-loop-other : goal.invariant-loop-other
invariant-loop-other l = l.text ≡ l.fn.text ++ flat_map name_behind (take l.other-index l.others)
