use Rattle.std.proofs.Common.{◌≡◌, [], ◌∷◌, ◌++◌, ◌+◌, drop, get_or, length, map, sym, ap, ◌∙◌, subst, arith}
use Rattle.common_laws.specs.Lists.{drop_at}
use Rattle.plan_types.specs.Conditions.{cond_of, conds_behind}
use Rattle.conditionals.specs.Count.{numbers_of}
use Rattle.impossible_conditions.specs.Known.{AreKnown}
use Rattle.impossible_conditions.specs.Outlook.{AreOutlooks, IsOutlook}
use Rattle.impossible_conditions.proofs.OutlookPlaces.{outlook-push}
use Rattle.impossible_conditions.proofs.Rows.{counted-next, known-push, next-row, within-next}
use Rattle.impossible_conditions.proofs.outlook.outlooks.Goals as goal

pub index-requires : goal.index-requires
index-requires c =
    let env = c.args.env.now in
    let row = c.row-item.result in
    let rows = c.rows-rows.result.now in
    let held = c.loop-row.invariant in
    let behind = ap (conds_behind held.0) (sym (drop_at rows c.loop-row.row-index row c.loop-row-test.true c.row-item.is)) ∙ held.3 in
    let more = next-row held.0 row (drop (c.loop-row.row-index + 1) rows) c.args.conds.now (behind ∙ c.rows-rows.ensures) in
    let within = within-next env held.0 more.0 c.loop-row.before.items (cond_of held.0 row) held.1 in
    let numbers = ap length (c.in_ok-numbers.ensures ∙ ap (map (numbers_of env)) more.1) in
    omega (arith, within, numbers, c.len.ensures)

pub loop-row-preserved : goal.loop-row-preserved
loop-row-preserved c =
    let env = c.args.env.now in
    let row = c.row-item.result in
    let rows = c.rows-rows.result.now in
    let held = c.loop-row.invariant in
    let cond = cond_of held.0 row in
    let behind = ap (conds_behind held.0) (sym (drop_at rows c.loop-row.row-index row c.loop-row-test.true c.row-item.is)) ∙ held.3 in
    let more = next-row held.0 row (drop (c.loop-row.row-index + 1) rows) c.args.conds.now (behind ∙ c.rows-rows.ensures) in
    let new = c.in_ok-known.ensures held.0 more.0 (subst (AreKnown env held.0) (sym c.deref-in-loop-row.ensures.value) held.1) more.1 in
    let numbers = c.in_ok-numbers.ensures ∙ ap (map (numbers_of env)) more.1 in
    let len : c.len.result ≡ length c.loop-row.before.items = omega (arith, c.len.ensures) in
    let at = c.index.ensures ∙ (λ i. get_or (numbers i) (len i) c.index.result.now) in
    let number = counted-next env held.0 more.0 c.loop-row.before.items cond c.index.result.now held.1 at in
    let outlook : IsOutlook env cond (record { number = c.index.result.now.yes; known_impossible = c.in_ok-known.known.known_impossible }) = record { number = ap (λ n. n.yes) number; known_impossible = λ flags is. (new flags is).known_impossible } in (
      held.0 ++ cond ∷ [],
      subst (AreKnown env (held.0 ++ cond ∷ [])) (sym c.in_ok-push-2.ensures.items) (known-push env held.0 c.loop-row.before.items cond c.in_ok-known.known held.1 new),
      subst (AreOutlooks env (held.0 ++ cond ∷ [])) (sym c.in_ok-push.ensures.items) (outlook-push env held.0 c.loop-row.all.items cond _ held.2 outlook),
      behind,
    )
