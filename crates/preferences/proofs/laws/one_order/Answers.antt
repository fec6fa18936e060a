use Rattle.std.proofs.Common.{length}
use Rattle.std.specs.List.{range_with_len}
use Rattle.preferences.specs.Places.{place_cmp}
use Rattle.preferences.proofs.TotalOrders.{place-total, place-ties}
use Rattle.preferences.proofs.Unique.{sorted-same, permuted-count}
use Rattle.preferences.proofs.laws.one_order.Goals as goal

pub returns : goal.returns
returns c =
    λ p preferred instances a b one other.
    sorted-same (place_cmp p preferred instances) (place-total p preferred instances) (place-ties p preferred instances) a b one.sorted other.sorted
    (permuted-count (range_with_len 0 (length instances)) a b one.each other.each)
