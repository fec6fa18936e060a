-- Shared: each placed number is a node.
use Rattle.std.proofs.Common.{◌≡◌, ◌<◌, ℕ, ◌+◌, List, ◌∷◌, ◌++◌, length, take, drop, get_or, sym, ap, ◌∙◌}
use Rattle.std.specs.Prelude.{All}
use Rattle.std.proofs.lemmas.List.{get_or_default, take-append-drop}
use Rattle.common_laws.specs.Lists.{drop_at}
use Rattle.build_order.specs.Order.{IsBuildOrder}

pub all_within : (needs : List (List ℕ)) (order : List ℕ) → IsBuildOrder needs order → All (λ u. u < length needs) order
all_within needs order build k d lt =
    let u = get_or order k d in
    let split : order ≡ take k order ++ u ∷ drop (k + 1) order =
    sym (take-append-drop k order) ∙ ap (λ r. take k order ++ r) (drop_at order k u lt (get_or_default order k d u lt)) in
    (build.each (take k order) (drop (k + 1) order) u split).ready.node
