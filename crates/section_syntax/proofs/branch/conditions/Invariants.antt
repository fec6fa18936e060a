use Rattle.std.proofs.Common.{◌≡◌, map, take}
use Rattle.section_syntax.specs.Branch.{condition}
use Rattle.section_syntax.proofs.branch.conditions.Given as goal

abbrev pub invariant-loop-branch : goal.invariant-loop-branch
invariant-loop-branch l = l.conds ≡ map condition (take l.branch-index l.branches)
