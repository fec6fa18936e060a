use Rattle.std.proofs.Common.{◌∙◌, sym}
use Rattle.plan_types.specs.declared.refusal.Cause.TheVariants as causes
use Rattle.description.specs.Faults.{of_condition, unless}
use Rattle.description.proofs.FirstFaults.{at-append, earlier-of}
use Rattle.description.proofs.faults.of_branch.Goals as goal

pub returns : goal.returns
returns c file word tells =
    earlier-of c.earlier.ensures (c.of_condition-condition.ensures file tells) c.unless-place.ensures
    ∙ sym (at-append c.args.line (of_condition file.sections c.args.condition.now) (unless c.args.fits causes.ElseWithoutIf))
