use Rattle.std.proofs.Common.{Some}
use Rattle.plan_command.specs.Form.{form_of}
use Rattle.plan_command.specs.Asked.{picking_of}
use Rattle.plan_command.specs.Meaning.{Means, MeansFreeze, MeansGenerated, MeansReplay}
use Rattle.plan_command.specs.Run.{IsOutputOfCommand, MayPrint}
use Rattle.plan_command.proofs.Outputs.{prints-this}
use Rattle.plan_command.proofs.command.perform.Goals as goal

pub returns-in-Ok-clause-headline : goal.returns-in-Ok-clause-headline
returns-in-Ok-clause-headline g c = λ options files asked t.
    prints-this (Means (picking_of options) options.minimize (form_of options) options files) c.in-Ok.output (c.in-Ok.ensures.headline options files asked t) _ _ _ c.print.ensures.prints

pub returns-in-Ok-clause-frozen : goal.returns-in-Ok-clause-frozen
returns-in-Ok-clause-frozen g c = λ options files asked t.
    prints-this (MeansFreeze options files) c.in-Ok.output (c.in-Ok.ensures.frozen options files asked t) _ _ _ c.print.ensures.prints

pub returns-in-Ok-clause-replayed : goal.returns-in-Ok-clause-replayed
returns-in-Ok-clause-replayed g c = λ options events slots files asked t.
    prints-this (MeansReplay options events slots files) c.in-Ok.output (c.in-Ok.ensures.replayed options events slots files asked t) _ _ _ c.print.ensures.prints

pub returns-in-Ok-clause-observed : goal.returns-in-Ok-clause-observed
returns-in-Ok-clause-observed g c = λ files read.
    prints-this (IsOutputOfCommand (Some c.args.command) files) c.in-Ok.output (c.in-Ok.ensures.observed files read) _ _ _ c.print.ensures.prints

pub returns-in-Ok-clause-one_text : goal.returns-in-Ok-clause-one_text
returns-in-Ok-clause-one_text g c = prints-this (MayPrint (Some c.args.command)) c.in-Ok.output c.in-Ok.ensures.form _ _ _ c.print.ensures.prints

pub returns-in-Ok-clause-generated : goal.returns-in-Ok-clause-generated
returns-in-Ok-clause-generated g c = λ number limit asked.
    prints-this (MeansGenerated number limit) c.in-Ok.output (c.in-Ok.ensures.generated number limit asked) _ _ _ c.print.ensures.prints
