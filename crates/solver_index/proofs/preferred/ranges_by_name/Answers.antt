use Rattle.std.proofs.Common.{List, ◌++◌, ◌∷◌, [], ap, ◌∙◌, sym, take}
use Rattle.std.specs.Prelude.{if◌then◌else◌}
use Rattle.plan_types.specs.Bytes.{same_text}
use Rattle.plan_types.specs.declared.range.Range.{Range}
use Rattle.qualified_goals.specs.Names.{Name}
use Rattle.solver_index.specs.Orders.{ranges_for}
use Rattle.solver_index.proofs.RangesByName.{ranges-more}
use Rattle.solver_index.proofs.preferred.ranges_by_name.Goals as goal

pub loop-named-preserved : goal.loop-named-preserved
loop-named-preserved c = λ name.
    let all = c.args.all.now in
    let i = c.loop-named.named-index in
    let n = c.named-item.result in
    let before = ranges_for name (take i all) in
    let one : Name → Range → List Range = λ key range. if same_text key name then range ∷ [] else [] in
    c.in_ok-push_at.ensures.ok name
    ∙ ap (λ l. l ++ one c.in_ok-copy.field-0 c.in_ok-range.range) (c.loop-named.invariant name)
    ∙ ap (λ key. before ++ one key c.in_ok-range.range) c.in_ok-copy.ensures
    ∙ ap (λ range. before ++ one n.name range) c.in_ok-range.ensures
    ∙ sym (ranges-more name all i n c.loop-named-test.true c.named-item.is)
