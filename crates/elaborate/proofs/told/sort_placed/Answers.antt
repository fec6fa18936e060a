use Rattle.std.proofs.Common.{rules, is_lt}
use Rattle.std.proofs.lemmas.Fn.{always_returns_same}
use Rattle.elaborate.specs.Told.{placed_cmp}
use Rattle.elaborate.proofs.NodeOrder.{placed-order}
use Rattle.elaborate.proofs.told.sort_placed.Goals as goal

pub returns-clause-sorted : goal.returns-clause-sorted
returns-clause-sorted c =
    let by_calls = always_returns_same _ _ _ (λ a r g h. search rules) in
    c.in_ok-sort_by.ensures.sorted (λ x y. is_lt (placed_cmp x y)) placed-order by_calls
