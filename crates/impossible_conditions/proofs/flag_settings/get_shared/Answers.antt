use Rattle.std.proofs.Common.{◌≡◌, Some, sym, ap, ◌∙◌}
use Rattle.std.specs.BTreeMap.{get}
use Rattle.std.specs.Cmp.Lexicographic.{slice_cmp}
use Rattle.std.specs.Ordering.{nat_cmp}
use Rattle.impossible_conditions.proofs.Settings.{entry-got, said-at}
use Rattle.impossible_conditions.proofs.flag_settings.get_shared.Goals as goal

pub returns-in-Some : goal.returns-in-Some
returns-in-Some c flags all =
    let map = c.map-item.result in
    let there : get (slice_cmp nat_cmp) map c.args.name.now ≡ Some c.in-Some.on.now = ap (λ m. get (slice_cmp nat_cmp) m c.args.name.now) (sym c.get.ensures) ∙ sym c.in-Some.ensures.value in
    entry-got flags map.entries c.args.name.now c.in-Some.on.now (said-at flags c.args.shared.now c.loop-map.map-index map all c.loop-map-test.true c.map-item.is) there
