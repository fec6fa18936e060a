use Rattle.std.proofs.Common.{◌∙◌, ap, sym, refl, ◌||◌, ◌&&◌, not}
use Rattle.qualified_goals.specs.Names.{is_listed}
use Rattle.constraint_set.specs.Bars.{boot_libraries, is_unit}
use Rattle.constraint_set.proofs.Stands.{bars-is}
use Rattle.constraint_set.proofs.constraints.Constraints.bars.Goals as goal

pub returns-then-rules_bar : goal.returns-then-rules_bar
returns-then-rules_bar c = λ project names stands.
    let boot = is_listed boot_libraries c.args.instance.now.name && not (is_unit c.args.instance.now.origin) && not c.args.self.now.boot_installs in
    c.if-rules_bar.true ∙ sym (ap (λ b. b || boot) c.if-rules_bar.true) ∙ bars-is c.args.self.now project names stands c.args.v c.args.instance.now c.rules_bar.result boot c.rules_bar.ensures refl

pub returns-else-rules_bar : goal.returns-else-rules_bar
returns-else-rules_bar c = λ project names stands.
    sym (ap (λ b. b || c.is_boot.result) c.if-rules_bar.false) ∙ bars-is c.args.self.now project names stands c.args.v c.args.instance.now c.rules_bar.result c.is_boot.result c.rules_bar.ensures c.is_boot.ensures
