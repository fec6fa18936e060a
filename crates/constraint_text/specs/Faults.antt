-- The fault of an entry in a project.
use Rattle.std.specs.Prelude.{◌≡◌, ℕ, List}
use Rattle.plan_types.specs.declared.refusal.Cause.{Cause}
use Rattle.plan_types.specs.declared.refusal.Cause.TheVariants.{BadConstraint}

-- in a project, a part that denotes nothing has the fault `BadConstraint`
pub record IsBadConstraint {A : Type 0} (Part : List ℕ → A → Type 0) (part : List ℕ) (cause : Cause) : Type 0 where
  pub is : cause ≡ BadConstraint
  pub stands_for_none : (x : A) → Part part x → ⊥
