use Rattle.std.proofs.Common.{rules}
use Rattle.std.proofs.lemmas.Fn.{always_returns_same}
use Rattle.index_assembly.specs.Index.{is_package_below}
use Rattle.index_assembly.proofs.StableSorts.{sorted-is, package-order}
use Rattle.index_assembly.proofs.order.sort_packages.Goals as goal

pub returns : goal.returns
returns c =
    let by_calls = always_returns_same _ _ _ (λ a r g h. search rules) in
    let is = c.in_ok-sort_by.ensures in
    sorted-is is_package_below package-order _ _ (is.sorted is_package_below package-order by_calls) (is.stable is_package_below package-order by_calls)
