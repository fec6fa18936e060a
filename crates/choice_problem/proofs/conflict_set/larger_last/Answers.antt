use Rattle.std.proofs.Common.{◌++◌, sym, ◌∙◌}
use Rattle.std.proofs.Math.Bool.{or_comm}
use Rattle.choice_problem.specs.ConflictSet.{has}
use Rattle.choice_problem.proofs.VariableSets.{has-append, set-same}
use Rattle.choice_problem.proofs.conflict_set.larger_last.Goals as goal

pub returns-then-len-clause-both : goal.returns-then-len-clause-both
returns-then-len-clause-both c =
    let one = c.args.one in
    let other = c.args.other in
    set-same (other ++ one) (one ++ other) (λ v. has-append other one v ∙ or_comm (has other v) (has one v) ∙ sym (has-append one other v))
