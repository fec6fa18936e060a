use Rattle.std.proofs.Common.{◌≡◌, ℕ, List, sym, subst}
use Rattle.plan_types.specs.Refusal.{RefusesAt}
use Rattle.plan_types.specs.declared.refusal.Fault.{Fault}
use Rattle.outside_folder.specs.declared.calls.Content.{Content}
use Rattle.older_headers.specs.Answers.{IsRefusal}
use Rattle.modern_files.specs.Frames.{IsOutcome}
use Rattle.modern_files.specs.declared.frame.Outcome.TheVariants.{Refused}
use Rattle.modern_files.proofs.frame.outcome_of.Goals as goal

pub returns-in-Err-At : goal.returns-in-Err-At
returns-in-Err-At c =
    let told = subst (λ (fault : Fault). RefusesAt (IsRefusal c.as_slice.result.now) fault) c.in-Err-At.field-0-is c.in-Err-At.ensures.refusal in
    subst (λ (found : Content). IsOutcome found (Refused c.in-Err-At.line c.in-Err-At.cause)) (sym c.in-Bytes.is)
    (subst (λ (bytes : List ℕ). IsRefusal bytes c.in-Err-At.line c.in-Err-At.cause) c.as_slice.ensures told)
