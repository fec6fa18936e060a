use Rattle.std.proofs.Common.{arith, rules}
use Rattle.std.proofs.lemmas.List.Sorted.{IsPartitionPoint-from_clause}
use Rattle.qualified_goals.specs.Variable.{is_before}
use Rattle.choice_problem.proofs.RisingVariables.{rising-parted, parted-place}
use Rattle.choice_problem.proofs.rising.place_of.Goals as goal

pub returns : goal.returns
returns c =
    let parted = rising-parted c.args.v c.args.vars.now c.requires in
    let point = IsPartitionPoint-from_clause (λ w. is_before w c.args.v) c.args.vars.now c.partition_point.result c.partition_point.ensures.partitioned parted (λ a r q k. search rules) in
    parted-place c.args.v c.args.vars.now c.partition_point.result c.partition_point.ensures.bound
    (λ k d h. point.0 k d (omega arith) h) (λ k d h l. point.1 k d h l)
