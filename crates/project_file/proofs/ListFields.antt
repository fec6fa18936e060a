-- A list that was read, or its fault, is what its field says.
use Rattle.std.proofs.Common.{◌≡◌, ℕ, List, Result, Ok, Err, subst}
use Rattle.std.specs.Prelude.{⊤, IfOk, IfErr, MatchResult}
use Rattle.plan_types.specs.declared.refusal.Cause.{Cause}
use Rattle.plan_types.specs.declared.refusal.TextFault.{TextFault}
use Rattle.plan_types.specs.declared.refusal.TextFault.TheVariants.{Bad}
use Rattle.plan_types.specs.Refusal.{Refuses}
use Rattle.project_file.specs.Fields.{IsRead}
use Rattle.project_file.specs.declared.part.ProjectSaid.{ProjectSaid}
use Rattle.project_file.specs.declared.part.ProjectSaid.TheVariants as said

pub list_says : {A E : Type 0} (as' : List A → ProjectSaid) (Stands : List ℕ → List A → Type 0) (Fails : List ℕ → Cause → Type 0) {bytes text : List ℕ}
    (read : Result (List A) TextFault) (result : Result ProjectSaid E) → bytes ≡ text → IfOk read (Stands bytes) → IfErr read (Refuses (Fails bytes))
    → IfOk result (λ told. MatchResult read (λ found. ⊤ × (told ≡ as' found)) (λ fault. (cause : Cause) × (fault ≡ Bad cause) × (told ≡ said.Bad cause)))
    → IfOk result (IsRead as' (Stands text) (Fails text))
list_says as' Stands Fails (Ok found) (Ok told) is stands fails says = (Ok found, subst (λ t. Stands t found) is stands, says.1)
list_says as' Stands Fails {bytes} (Err fault) (Ok told) is stands fails says =
    (Err says.0, subst (λ t. Fails t says.0) is (subst (Refuses (Fails bytes)) says.1 fails), says.2)
list_says as' Stands Fails read (Err none) is stands fails says = tt
