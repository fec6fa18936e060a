-- The open variables as active demands are added and removed.
use Rattle.std.proofs.Common.{◌≡◌, ℕ, Bool, true, false, not, ◌&&◌, ◌||◌, List, [], ◌∷◌, ◌++◌, Option, Some, None, is_some, is_none, refl, sym, ap, ◌∙◌}
use Rattle.std.proofs.lemmas.List.{map-append}
use Rattle.qualified_goals.specs.declared.variable.Var.{Var}
use Rattle.qualified_goals.specs.Variable.{same_var}
use Rattle.qualified_goals.specs.SameVariable.{same_var-is, same_var-refl}
use Rattle.choice_problem.specs.ConflictSet.{has}
use Rattle.choice_problem.proofs.VariableSets.{has-append}
use Rattle.goal_links.specs.declared.mentions.Mention.{Mention}
use Rattle.choice_problem.specs.declared.problem.Choice.{Choice}
use Rattle.choice_problem.specs.Trail.{value_in}
use Rattle.goal_links.specs.Mentions.{vars_at}
use Rattle.choice_stack.specs.Stack.{AreOpen}
use Rattle.std.proofs.Math.Bool.{or-true, and-false}

pub vars-push : (front : List Mention) (m : Mention) (v : Var) → has (vars_at (front ++ m ∷ [])) v ≡ has (vars_at front) v || (same_var m.var v || false)
vars-push front m v = ap (λ vs. has vs v) (map-append (λ x. x.var) front (m ∷ [])) ∙ has-append (vars_at front) (m.var ∷ []) v

some-none : (o : Option ℕ) (b : Bool) → is_some o ≡ b → is_none o ≡ not b
some-none None b h = ap not h
some-none (Some n) b h = ap not h

other : (a n : Bool) → (a || (false || false)) && n ≡ a && n
other true n = refl
other false n = refl

-- one active demand removed whose target has a value
pub less-valued : (front : List Mention) (m : Mention) (trail : List Choice) (vars : List Var) → AreOpen (front ++ m ∷ []) trail vars
    → is_some (value_in trail m.var) ≡ true → AreOpen front trail vars
less-valued front m trail vars h valued v =
    h v ∙ ap (λ b. b && is_none (value_in trail v)) (vars-push front m v)
    ∙ elim (same_var m.var v) as (λ b. same_var m.var v ≡ b → (has (vars_at front) v || (b || false)) && is_none (value_in trail v) ≡ has (vars_at front) v && is_none (value_in trail v)) [
      | true ↦ λ e.
          let none : is_none (value_in trail v) ≡ false = ap (λ w. is_none (value_in trail w)) (sym (same_var-is m.var v e)) ∙ some-none (value_in trail m.var) true valued in
          ap (λ n. (has (vars_at front) v || true) && n) none ∙ and-false (has (vars_at front) v || true)
          ∙ sym (ap (λ n. has (vars_at front) v && n) none ∙ and-false (has (vars_at front) v))
      | false ↦ λ e. other (has (vars_at front) v) (is_none (value_in trail v))
    ] refl

-- one removed whose target another active demand has
pub less-again : (front : List Mention) (m : Mention) (trail : List Choice) (vars : List Var) → AreOpen (front ++ m ∷ []) trail vars
    → has (vars_at front) m.var ≡ true → AreOpen front trail vars
less-again front m trail vars h again v =
    h v ∙ ap (λ b. b && is_none (value_in trail v)) (vars-push front m v)
    ∙ elim (same_var m.var v) as (λ b. same_var m.var v ≡ b → (has (vars_at front) v || (b || false)) && is_none (value_in trail v) ≡ has (vars_at front) v && is_none (value_in trail v)) [
      | true ↦ λ e.
          let there : has (vars_at front) v ≡ true = ap (has (vars_at front)) (sym (same_var-is m.var v e)) ∙ again in
          ap (λ b. b && is_none (value_in trail v)) (or-true (has (vars_at front) v)) ∙ sym (ap (λ b. b && is_none (value_in trail v)) there)
      | false ↦ λ e. other (has (vars_at front) v) (is_none (value_in trail v))
    ] refl

-- one removed that was the last on its target
pub less-open : (front : List Mention) (m : Mention) (trail : List Choice) (vars less : List Var) → AreOpen (front ++ m ∷ []) trail vars
    → has (vars_at front) m.var ≡ false → ((v : Var) → has less v ≡ (not (same_var m.var v) && has vars v)) → AreOpen front trail less
less-open front m trail vars less h once less_is v =
    less_is v ∙ ap (λ b. not (same_var m.var v) && b) (h v ∙ ap (λ b. b && is_none (value_in trail v)) (vars-push front m v))
    ∙ elim (same_var m.var v) as (λ b. same_var m.var v ≡ b
    → not b && ((has (vars_at front) v || (b || false)) && is_none (value_in trail v)) ≡ has (vars_at front) v && is_none (value_in trail v)) [
      | true ↦ λ e.
          let there : has (vars_at front) v ≡ false = ap (has (vars_at front)) (sym (same_var-is m.var v e)) ∙ once in
          sym (ap (λ b. b && is_none (value_in trail v)) there)
      | false ↦ λ e. other (has (vars_at front) v) (is_none (value_in trail v))
    ] refl

-- one active demand added whose target has a value
pub more-valued : (front after : List Mention) (m : Mention) (trail : List Choice) (vars : List Var) → AreOpen front trail vars
    → after ≡ front ++ m ∷ [] → is_some (value_in trail m.var) ≡ true → AreOpen after trail vars
more-valued front after m trail vars h is valued v =
    h v
    ∙ elim (same_var m.var v) as (λ b. same_var m.var v ≡ b → has (vars_at front) v && is_none (value_in trail v) ≡ (has (vars_at front) v || (b || false)) && is_none (value_in trail v)) [
      | true ↦ λ e.
          let none : is_none (value_in trail v) ≡ false = ap (λ w. is_none (value_in trail w)) (sym (same_var-is m.var v e)) ∙ some-none (value_in trail m.var) true valued in
          ap (λ n. has (vars_at front) v && n) none ∙ and-false (has (vars_at front) v)
          ∙ sym (ap (λ n. (has (vars_at front) v || true) && n) none ∙ and-false (has (vars_at front) v || true))
      | false ↦ λ e. sym (other (has (vars_at front) v) (is_none (value_in trail v)))
    ] refl
    ∙ sym (ap (λ b. b && is_none (value_in trail v)) (ap (λ ms. has (vars_at ms) v) is ∙ vars-push front m v))

-- one added whose target another active demand has
pub more-again : (front after : List Mention) (m : Mention) (trail : List Choice) (vars : List Var) → AreOpen front trail vars
    → after ≡ front ++ m ∷ [] → has (vars_at front) m.var ≡ true → AreOpen after trail vars
more-again front after m trail vars h is again v =
    h v
    ∙ elim (same_var m.var v) as (λ b. same_var m.var v ≡ b → has (vars_at front) v && is_none (value_in trail v) ≡ (has (vars_at front) v || (b || false)) && is_none (value_in trail v)) [
      | true ↦ λ e.
          let there : has (vars_at front) v ≡ true = ap (has (vars_at front)) (sym (same_var-is m.var v e)) ∙ again in
          ap (λ b. b && is_none (value_in trail v)) there ∙ sym (ap (λ b. b && is_none (value_in trail v)) (or-true (has (vars_at front) v)))
      | false ↦ λ e. sym (other (has (vars_at front) v) (is_none (value_in trail v)))
    ] refl
    ∙ sym (ap (λ b. b && is_none (value_in trail v)) (ap (λ ms. has (vars_at ms) v) is ∙ vars-push front m v))

-- one added whose target has no value, and no active demand before
pub more-open : (front after : List Mention) (m : Mention) (trail : List Choice) (vars more : List Var) → AreOpen front trail vars
    → after ≡ front ++ m ∷ [] → is_some (value_in trail m.var) ≡ false → ((v : Var) → has more v ≡ (same_var m.var v || has vars v)) → AreOpen after trail more
more-open front after m trail vars more h is free more_is v =
    more_is v ∙ ap (λ b. same_var m.var v || b) (h v)
    ∙ elim (same_var m.var v) as (λ b. same_var m.var v ≡ b
    → b || (has (vars_at front) v && is_none (value_in trail v)) ≡ (has (vars_at front) v || (b || false)) && is_none (value_in trail v)) [
      | true ↦ λ e.
          let none : is_none (value_in trail v) ≡ true = ap (λ w. is_none (value_in trail w)) (sym (same_var-is m.var v e)) ∙ some-none (value_in trail m.var) false free in
          sym (ap (λ b. b && is_none (value_in trail v)) (or-true (has (vars_at front) v)) ∙ none)
      | false ↦ λ e. sym (other (has (vars_at front) v) (is_none (value_in trail v)))
    ] refl
    ∙ sym (ap (λ b. b && is_none (value_in trail v)) (ap (λ ms. has (vars_at ms) v) is ∙ vars-push front m v))

-- the target of the last demand on it, without a value
pub last-open : (front : List Mention) (m : Mention) (trail : List Choice) (vars : List Var) → AreOpen (front ++ m ∷ []) trail vars
    → is_some (value_in trail m.var) ≡ false → has vars m.var ≡ true
last-open front m trail vars h free =
    h m.var ∙ ap (λ b. b && is_none (value_in trail m.var)) (vars-push front m m.var ∙ ap (λ b. has (vars_at front) m.var || (b || false)) (same_var-refl m.var) ∙ or-true (has (vars_at front) m.var))
    ∙ some-none (value_in trail m.var) false free

-- a variable that no active demand has as target isn't open
pub not-open : (front : List Mention) (trail : List Choice) (vars : List Var) (v : Var) → AreOpen front trail vars → has (vars_at front) v ≡ false → has vars v ≡ false
not-open front trail vars v h once = h v ∙ ap (λ b. b && is_none (value_in trail v)) once
