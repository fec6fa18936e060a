use Rattle.std.proofs.Common.{rules}
use Rattle.std.proofs.lemmas.Fn.{always_returns_same}
use Rattle.index_assembly.specs.Entries.{is_unit_below}
use Rattle.index_assembly.proofs.StableSorts.{sorted-is, unit-order}
use Rattle.index_assembly.proofs.order.sort_units.Goals as goal

pub returns : goal.returns
returns c =
    let by_calls = always_returns_same _ _ _ (λ a r g h. search rules) in
    let is = c.in_ok-sort_by.ensures in
    sorted-is is_unit_below unit-order _ _ (is.sorted is_unit_below unit-order by_calls) (is.stable is_unit_below unit-order by_calls)
