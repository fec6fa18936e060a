use Rattle.std.proofs.Common.{◌≡◌, Some, sym, subst, ◌∙◌}
use Rattle.std.proofs.lemmas.Result.{IfOk-weaker}
use Rattle.command_line.specs.declared.reading.Command.{Command}
use Rattle.command_line.specs.declared.reading.Command.TheVariants.{Generate}
use Rattle.plan_command.specs.Asked.{picking_of}
use Rattle.plan_command.specs.Form.{form_of}
use Rattle.plan_command.specs.Meaning.{MeansGenerated}
use Rattle.plan_command.specs.Run.{MayPrint}
use Rattle.plan_command.proofs.Outputs.{some-wider}
use Rattle.plan_command.proofs.command.output_of.Goals as goal

pub returns-in_ok-output-in-Generate-clause-generated : goal.returns-in_ok-output-in-Generate-clause-generated
returns-in_ok-output-in-Generate-clause-generated g c = λ number limit asked.
    let output = c.in_ok-output-in-Generate.output in
    let same : Generate c.in-Generate.number c.in-Generate.limit ≡ Generate number limit = sym c.in-Generate.is ∙ asked in
    let numbers : c.in-Generate.number ≡ number = cc same in
    let limits : c.in-Generate.limit ≡ limit = cc same in
    subst (λ l. MeansGenerated number l output) limits
    (subst (λ n. MeansGenerated n c.in-Generate.limit output) numbers c.in_ok-output-in-Generate.ensures.meaning)

pub returns-in-Plan-clause-form : goal.returns-in-Plan-clause-form
returns-in-Plan-clause-form g c =
    let o = c.in-Plan.options in
    IfOk-weaker c.output_of_plan.result _ _
    (λ output h. subst (λ (k : Command). MayPrint (Some k) output) (sym c.in-Plan.is)
    (some-wider (picking_of o) o.minimize (λ own. own ≡ c.form_of-form.result) (λ own. own ≡ form_of o) (λ own e. e ∙ c.form_of-form.ensures) output h))
    c.output_of_plan.ensures.form

pub returns-in_ok-output-in-Generate-clause-form :
    goal.returns-in_ok-output-in-Generate-clause-form
returns-in_ok-output-in-Generate-clause-form g c =
    subst (λ (k : Command). MayPrint (Some k) c.in_ok-output-in-Generate.output) (sym c.in-Generate.is) c.in_ok-output-in-Generate.ensures.form
