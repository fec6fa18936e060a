use Rattle.std.proofs.Common.{refl, subst}
use Rattle.std.specs.Prelude.{Ok, Err}
use Rattle.plan_types.specs.declared.range.Spec.TheVariants.{V3_0}
use Rattle.condition_text.specs.Grammar.{Stands, FirstFault}
use Rattle.project_file.proofs.branch.settled.Goals as goal

pub returns-in-Ok : goal.returns-in-Ok
returns-in-Ok c = (Ok c.in-Ok.cond, subst (λ t. Stands V3_0 64 t c.in-Ok.cond) c.as_bytes.ensures c.in-Ok.ensures.condition, c.decided.ensures)

pub returns-in-Err-Bad : goal.returns-in-Err-Bad
returns-in-Err-Bad c = (Err c.in-Err-Bad.cause, subst (λ t. FirstFault V3_0 64 t c.in-Err-Bad.cause) c.as_bytes.ensures (rw c.in-Err-Bad.field-0-is at c.in-Err-Bad.ensures.fault), rw c.in-Err-Bad.field-0-is refl)
