use Rattle.std.proofs.Common.{◌∙◌, ap, sym}
use Rattle.plan_types.specs.declared.refusal.Cause.TheVariants as causes
use Rattle.package_declarations.specs.Declarations.{has_flags}
use Rattle.description.specs.Faults.{at, of_condition, unless}
use Rattle.description.specs.FaultOrder.{first}
use Rattle.description.proofs.faults.of_condition.Goals as goal

pub returns-in-Ok : goal.returns-in-Ok
returns-in-Ok c file tells =
    c.unless.ensures ∙ ap (λ b. first (at c.args.line (unless b causes.UnknownFlag))) (c.has_flags.ensures file tells ∙ ap (has_flags file.sections) c.get.ensures)
    ∙ ap (λ v. first (at c.args.line (of_condition file.sections v))) (sym c.in-Ok.is)
