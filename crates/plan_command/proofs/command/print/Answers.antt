use Rattle.std.proofs.Common.{refl, subst}
use Rattle.outside_folder.specs.Sink.{Appends, AppendsPrefix}
use Rattle.plan_command.specs.Run.{text_prefix, whole_text}
use Rattle.plan_command.proofs.command.print.Goals as goal

pub returns-in-Ok-clause-prints : goal.returns-in-Ok-clause-prints
returns-in-Ok-clause-prints g c = whole_text c.args.output.now refl c.of.ensures (subst (Appends _ _) c.as_bytes.ensures c.in-Ok.ensures.ok)

pub returns-in-Err-clause-prints : goal.returns-in-Err-clause-prints
returns-in-Err-clause-prints g c = text_prefix c.args.output.now refl refl (subst (AppendsPrefix _ _) c.as_bytes.ensures c.in-Err.ensures.err)
