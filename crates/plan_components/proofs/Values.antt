-- The values of a trail, one choice at a time.
use Rattle.std.proofs.Common.{◌≡◌, ℕ, true, false, cond, List, [], ◌∷◌, ◌++◌, Option, Some, None, refl, sym, ap, ◌∙◌}
use Rattle.std.specs.Option.{is_some}
use Rattle.std.proofs.lemmas.Bool.{false≢true}
use Rattle.qualified_goals.specs.declared.variable.Var.{Var}
use Rattle.qualified_goals.specs.SameVariable.{same_var-is}
use Rattle.qualified_goals.specs.Variable.{same_var}
use Rattle.choice_problem.specs.declared.problem.Choice.{Choice}
use Rattle.choice_problem.specs.Assignment.{Assignment}
use Rattle.choice_problem.specs.Trail.{value_in}
use Rattle.plan_components.specs.Steps.{first_value, value_with}

pub value_more : (trail : List Choice) (c : Choice) (v : Var) → value_in (trail ++ c ∷ []) v ≡ value_with (value_in trail) c v
value_more [] c v = refl
value_more (d ∷ trail) c v =
    ap (cond (same_var d.var v) (Some d.val)) (value_more trail c v)
    ∙ elim (same_var d.var v) as (λ b. cond b (Some d.val) (value_with (value_in trail) c v) ≡ first_value (cond b (Some d.val) (value_in trail v)) (cond (same_var c.var v) (Some c.val) None)) [
      | true ↦ refl
      | false ↦ refl
    ]

first-alone : (o : Option ℕ) → first_value o None ≡ o
first-alone None = refl
first-alone (Some n) = refl

module _ (A : Assignment) (c : Choice) (v : Var) where
  -- a variable with a value keeps it
  pub value_kept : is_some (A c.var) ≡ true → A v ≡ value_with A c v
  value_kept h =
      elim (same_var c.var v) as (λ b. same_var c.var v ≡ b → A v ≡ first_value (A v) (cond b (Some c.val) None)) [
        | true ↦ λ e. has (A v) (ap (λ w. is_some (A w)) (sym (same_var-is c.var v e)) ∙ h)
        | false ↦ λ e. sym (first-alone (A v))
      ] refl
    where
      has : (o : Option ℕ) → is_some o ≡ true → o ≡ first_value o (Some c.val)
      has None k = absurd (false≢true k)
      has (Some n) k = refl

  -- a variable without a value gets it
  pub value_given : is_some (A c.var) ≡ false → cond (same_var c.var v) (Some c.val) (A v) ≡ value_with A c v
  value_given h =
      elim (same_var c.var v) as (λ b. same_var c.var v ≡ b → cond b (Some c.val) (A v) ≡ first_value (A v) (cond b (Some c.val) None)) [
        | true ↦ λ e. lacks (A v) (ap (λ w. is_some (A w)) (sym (same_var-is c.var v e)) ∙ h)
        | false ↦ λ e. sym (first-alone (A v))
      ] refl
    where
      lacks : (o : Option ℕ) → is_some o ≡ false → Some c.val ≡ first_value o (Some c.val)
      lacks None k = refl
      lacks (Some n) k = absurd (false≢true (sym k))
