use Rattle.std.proofs.Common.{◌++◌, sym, ◌∙◌}
use Rattle.std.proofs.Math.Bool.{or_comm}
use Rattle.choice_problem.specs.ConflictSet.{has}
use Rattle.choice_problem.proofs.VariableSets.{has-append, set-same}
use Rattle.choice_problem.proofs.conflict_set.by_size.Goals as goal

pub returns-then-left-right-clause-both : goal.returns-then-left-right-clause-both
returns-then-left-right-clause-both c =
    let left = c.args.left.now in
    let right = c.args.right.now in
    set-same (right ++ left) (left ++ right) (λ v. has-append right left v ∙ or_comm (has right v) (has left v) ∙ sym (has-append left right v))
