use Rattle.std.proofs.Common.{◌≡◌, ◌≤◌, ◌+◌, ◌*◌, length, true, false}
use Rattle.plan_types.specs.declared.condition.Cond.{size-Cond}
use Rattle.conditionals.specs.Paths.{paths_of}
use Rattle.common_laws.specs.Small.{capped}
use Rattle.conditionals.proofs.count.+numbers_of.Given as goal

abbrev pub decreases-numbers_of : goal.decreases-numbers_of
decreases-numbers_of l = size-Cond l.cond.now

-- the weighted numbers of the rest are those of the whole
abbrev pub invariant-loop-left : goal.invariant-loop-left
invariant-loop-left l = record {
  yes : capped (l.for_yes.yes * length (paths_of l.env l.left true) + l.for_yes.no * length (paths_of l.env l.left false)) ≡ capped (length (paths_of l.env l.cond true));
  no : capped (l.for_no.yes * length (paths_of l.env l.left true) + l.for_no.no * length (paths_of l.env l.left false)) ≡ capped (length (paths_of l.env l.cond false));
  inside : size-Cond l.left ≤ size-Cond l.cond;
}
