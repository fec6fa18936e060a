use Rattle.std.proofs.Common.{◌∙◌}
use Rattle.package_declarations.specs.Setup.{custom_said}
use Rattle.package_declarations.proofs.LastValues.{last_more}
use Rattle.package_declarations.proofs.setup.last_build_type.Goals as goal

pub loop-field-preserved : goal.loop-field-preserved
loop-field-preserved c =
    last_more (λ field. custom_said field.head) c.loop-field.custom c.build_type-custom.result c.args.heads.now c.loop-field.field-index c.field-item.result c.loop-field-test.true c.field-item.is c.build_type-custom.ensures
    ∙ c.loop-field.invariant
