use Rattle.std.proofs.Common.{true}
use Rattle.conditionals.specs.Paths.{clean_paths}
use Rattle.flatten.specs.WholeCondition.{whole_condition}
use Rattle.flatten.specs.Counting.{flags_of}
use Rattle.flatten.specs.Demands.{paths_at}
use Rattle.flatten.proofs.Counting.{from_path, holds_too}
use Rattle.flatten.proofs.laws.no_two_count.Goals as goal

pub returns : goal.returns
returns c env at parts i j flat other here there met both =
    let kind = at.component.kind in
    let dep = at.guarded.dep in
    let one = from_path kind dep (clean_paths (paths_at env at)) i flat here in
    let two = from_path kind dep (clean_paths (paths_at env at)) j other there in
    c.no_two_paths_hold.ensures env (whole_condition at.component at.guarded) true (flags_of parts) i j one.path two.path one.there two.there
    (holds_too parts kind dep one.path flat one.is met)
    (holds_too parts kind dep two.path other two.is both)
