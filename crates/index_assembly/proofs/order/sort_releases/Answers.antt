use Rattle.std.proofs.Common.{rules}
use Rattle.std.proofs.lemmas.Fn.{always_returns_same}
use Rattle.index_assembly.specs.Entries.{is_version_below}
use Rattle.index_assembly.proofs.StableSorts.{sorted-is, version-order}
use Rattle.index_assembly.proofs.order.sort_releases.Goals as goal

pub returns : goal.returns
returns c =
    let by_calls = always_returns_same _ _ _ (λ a r g h. search rules) in
    let is = c.in_ok-sort_by.ensures in
    sorted-is is_version_below version-order _ _ (is.sorted is_version_below version-order by_calls) (is.stable is_version_below version-order by_calls)
