use Rattle.std.proofs.Common.{refl, subst}
use Rattle.outside_folder.specs.Sink.{Appends, AppendsPrefix}
use Rattle.plan_command.specs.Output.{usage}
use Rattle.plan_command.specs.Run.{text_prefix, whole_text}
use Rattle.plan_command.proofs.command.print_usage.Goals as goal

pub returns-in-Ok-clause-prints : goal.returns-in-Ok-clause-prints
returns-in-Ok-clause-prints g c = whole_text usage refl c.of.ensures (subst (Appends _ _) c.as_bytes.ensures.value c.in-Ok.ensures.ok)

pub returns-in-Err-clause-prints : goal.returns-in-Err-clause-prints
returns-in-Err-clause-prints g c = text_prefix usage refl refl (subst (AppendsPrefix _ _) c.as_bytes.ensures.value c.in-Err.ensures.err)
