use Rattle.std.proofs.Common.{◌≡◌, ◌++◌, flat_map, sym, ap, append-nil, ◌∙◌}
use Rattle.plan_print.specs.Texts.{without_lines}
use Rattle.plan_print.proofs.ListPairs.{zip-done}
use Rattle.plan_print.proofs.texts.push_without.Goals as goal

pub returns : goal.returns
returns c =
    let text = c.loop-kept.text in
    let none = zip-done c.loop-kept.rest.now c.args.maps.now c.loop-kept.kept-index c.loop-kept-test.false in
    sym (append-nil text) ∙ sym (ap (λ pairs. text ++ flat_map (without_lines c.args.index.now c.args.names.now) pairs) none) ∙ c.loop-kept.invariant
