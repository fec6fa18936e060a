use Rattle.std.proofs.Common.{◌+◌, drop}
use Rattle.conditionals.proofs.Followed.{one_more}
use Rattle.common_laws.specs.Lists.{drop_at}
use Rattle.conditionals.proofs.path.push_joined.Goals as goal

pub loop-path-preserved : goal.loop-path-preserved
loop-path-preserved c =
    let items = c.as_slice-path-items.result.now in
    let i = c.loop-path.path-index in
    one_more c.loop-path.paths c.push_copies.new.paths c.path-item.result (drop i items) (drop (i + 1) items) c.args.second.now c.as_slice.result.now _
    (drop_at items i c.path-item.result c.loop-path-test.true c.path-item.is) c.as_slice.ensures c.in_ok-push_copies.ensures c.loop-path.invariant
