use Rattle.std.proofs.Common.{◌≡◌, [], ◌∷◌, ◌++◌, sym, ap, ◌∙◌}
use Rattle.common_laws.specs.Lists.{drop_at}
use Rattle.plan_types.specs.Conditions.{cond_of, conds_behind}
use Rattle.conditionals.specs.Table.{numbers_of_row}
use Rattle.conditionals.proofs.Rows.{row-more}
use Rattle.conditionals.proofs.table.count_all.Goals as goal

pub loop-row-preserved : goal.loop-row-preserved
loop-row-preserved c =
    let env = c.args.env.now in
    let row = c.row-item.result in
    let held = c.loop-row.invariant in
    let counted = c.deref.ensures.value ∙ held.1 in
    let number = c.numbers_of_row-numbers.ensures ∙ ap (λ before. numbers_of_row env before row) counted in
    let pushed : c.push.new.self.items ≡ c.loop-row.all.items ++ c.numbers_of_row-numbers.result ∷ [] = c.in_ok-push.ensures.items in (
      held.0 ++ cond_of held.0 row ∷ [],
      pushed ∙ (λ i. held.1 i ++ number i ∷ []) ∙ row-more env held.0 row,
      ap (conds_behind held.0) (sym (drop_at c.rows-rows.result.now c.loop-row.row-index row c.loop-row-test.true c.row-item.is)) ∙ held.2,
    )
