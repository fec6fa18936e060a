use Rattle.std.proofs.Common.{◌≡◌, ◌++◌, map, zip, append-nil, sym, ap, ◌∙◌}
use Rattle.serde_json.specs.Data.{array}
use Rattle.serde_json.specs.View.{items_of, view}
use Rattle.plan_json.specs.Values.{without_value}
use Rattle.plan_print.proofs.ListPairs.{zip-done}
use Rattle.plan_json.proofs.parts.freed_list.Goals as goal

pub returns : goal.returns
returns c =
    let made = map view c.loop-kept.items.items in
    let value = without_value c.args.index.now c.args.names.now in
    let none = zip-done c.loop-kept.rest.now c.args.maps.now c.loop-kept.kept-index c.loop-kept-test.false in
    let all : made ≡ map value (zip c.args.set.now c.args.maps.now) =
    sym (append-nil made) ∙ sym (ap (λ pairs. made ++ map value pairs) none) ∙ c.loop-kept.invariant in
    c.from-2.ensures ∙ ap (λ items. array (items_of items)) all
