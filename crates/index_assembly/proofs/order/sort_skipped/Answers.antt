use Rattle.std.proofs.Common.{rules}
use Rattle.std.proofs.lemmas.Fn.{always_returns_same}
use Rattle.index_assembly.specs.Index.{is_path_below}
use Rattle.index_assembly.proofs.StableSorts.{sorted-is, path-order}
use Rattle.index_assembly.proofs.order.sort_skipped.Goals as goal

pub returns : goal.returns
returns c =
    let by_calls = always_returns_same _ _ _ (λ a r g h. search rules) in
    let is = c.in_ok-sort_by.ensures in
    sorted-is is_path_below path-order _ _ (is.sorted is_path_below path-order by_calls) (is.stable is_path_below path-order by_calls)
