use Rattle.std.proofs.Common.{rules, ◌≡◌, ◌∷◌}
use Rattle.std.specs.Vec.Iter.{into_iter_items}
use Rattle.conditionals.proofs.Followed.{one_more}
use Rattle.conditionals.proofs.path.followed.Goals as goal

pub loop-path-preserved : goal.loop-path-preserved
loop-path-preserved c =
    let items = into_iter_items c.loop-path.path-iterator in
    let rest = into_iter_items c.next.new.self in
    let next : items ≡ c.in-Some.path ∷ rest = search rules in
    one_more c.loop-path.paths c.push_followed.new.paths c.in-Some.path items rest c.args.second.now c.as_slice.result.now _ next c.as_slice.ensures c.in_ok-push_followed.ensures c.loop-path.invariant
