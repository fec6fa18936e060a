use Rattle.std.proofs.Common.{◌≡◌, refl, subst}
use Rattle.command_line.specs.declared.reading.Options.{Options}
use Rattle.outside_folder.specs.Files.{Files}
use Rattle.plan_generate.specs.Generated.{generated}
use Rattle.plan_command.specs.declared.form.Form.TheVariants.{Summary}
use Rattle.plan_command.specs.Asked.{picking_of}
use Rattle.plan_command.specs.Meaning.{Means}
use Rattle.plan_command.specs.Run.{IsPossibleOutput}
use Rattle.plan_command.proofs.generate.output_of_generate.Goals as goal

pub returns-in-Ok-clause-meaning : goal.returns-in-Ok-clause-meaning
returns-in-Ok-clause-meaning c =
    subst (λ (o : Options). Means (picking_of o) o.minimize (Summary c.args.number) o (generated c.args.number) c.in-Ok.output) c.in_ok-options.ensures
    (subst (λ (files : Files). Means (picking_of c.in_ok-options.options) c.in_ok-options.options.minimize (Summary c.args.number) c.in_ok-options.options files c.in-Ok.output) c.in_ok-generate.ensures.files
    (subst (λ (files : Files). Means (picking_of c.in_ok-options.options) c.in_ok-options.options.minimize (Summary c.args.number) c.in_ok-options.options files c.in-Ok.output) c.new-folder.ensures
    (c.in-Ok.ensures.headline _ refl)))

pub returns-in-Ok-clause-form : goal.returns-in-Ok-clause-form
returns-in-Ok-clause-form c =
    subst (λ (o : Options). IsPossibleOutput (picking_of o) o.minimize (λ own. own ≡ Summary c.args.number) c.in-Ok.output) c.in_ok-options.ensures c.in-Ok.ensures.form
