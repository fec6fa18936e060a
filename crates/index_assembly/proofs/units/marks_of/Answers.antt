use Rattle.std.proofs.Common.{◌≡◌, ◌∷◌, ◌++◌, [], ap, sym, ◌∙◌}
use Rattle.std.specs.Prelude.{position}
use Rattle.std.specs.List.{list_any}
use Rattle.index_files.proofs.KnownFiles.{map_take}
use Rattle.index_assembly.specs.Lacks.{is_none, lacks_one}
use Rattle.plan_types.specs.Bytes.{same_text}
use Rattle.index_assembly.proofs.units.marks_of.Goals as goal

pub loop-unit-preserved : goal.loop-unit-preserved
loop-unit-preserved c =
    let one : c.lacks_one.result ≡ lacks_one c.args.units.now c.unit-item.result =
    c.lacks_one.ensures ∙ ap (λ ids. list_any (λ id. is_none (position (same_text id) ids)) c.unit-item.result.record_of.depends) c.requires.ids in
    c.in_ok-push.ensures.ok ∙ (λ i. c.loop-unit.invariant i ++ one i ∷ [])
    ∙ sym (map_take (lacks_one c.args.units.now) c.args.units.now c.loop-unit.unit-index c.unit-item.result c.loop-unit-test.true c.unit-item.is)
