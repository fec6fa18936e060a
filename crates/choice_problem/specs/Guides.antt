-- The guides pick one of the open variables wherever there is one.
use Rattle.std.proofs.Common.{◌≡◌, true, false, cond, List, [], ◌∷◌, Some, None, refl, sym, ap, ◌∙◌, nat_lt}
use Rattle.std.proofs.lemmas.Bool.{or_left, or_right}
use Rattle.qualified_goals.specs.declared.variable.Var.{Var}
use Rattle.qualified_goals.specs.Variable.{same_var}
use Rattle.qualified_goals.specs.SameVariable.{same_var-refl}
use Rattle.choice_problem.specs.ConflictSet.{has, first_of}
use Rattle.choice_problem.specs.Guide.{IsGuide, least, score, better, most_met}

head-has : (w : Var) (vars : List Var) (v : Var) → w ≡ v → has (w ∷ vars) v ≡ true
head-has w vars v e = or_left (same_var w v) (has vars v) (ap (same_var w) (sym e) ∙ same_var-refl w)

least-picked : (vars : List Var) (v : Var) → first_of vars ≡ Some v → has vars v ≡ true
least-picked [] v h = absurd (cc h)
least-picked (w ∷ vars) v h = head-has w vars v (cc h)

least-none : (vars : List Var) → first_of vars ≡ None → vars ≡ []
least-none [] h = refl
least-none (w ∷ vars) h = absurd (cc h)

pub least-is-guide : IsGuide least
least-is-guide = record { picked = λ met vars v h. least-picked vars v h; none = λ met vars h. least-none vars h }

most-picked : (met : List (List Var)) (vars : List Var) (v : Var) → most_met met vars ≡ Some v → has vars v ≡ true
most-picked met [] v h = absurd (cc h)
most-picked met (w ∷ vars) v h =
    elim (most_met met vars) as (λ o. most_met met vars ≡ o → better met w o ≡ Some v → has (w ∷ vars) v ≡ true) [
      | None ↦ λ e k. head-has w vars v (cc k)
      | Some u ↦ λ e k. elim (nat_lt (score met w) (score met u)) as (λ b. Some (cond b u w) ≡ Some v → has (w ∷ vars) v ≡ true) [
        | true ↦ λ l. or_right (same_var w v) (has vars v) (most-picked met vars v (e ∙ l))
        | false ↦ λ l. head-has w vars v (cc l)
      ] k
    ] refl h

most-none : (met : List (List Var)) (vars : List Var) → most_met met vars ≡ None → vars ≡ []
most-none met [] h = refl
most-none met (w ∷ vars) h =
    elim (most_met met vars) as (λ o. better met w o ≡ None → w ∷ vars ≡ []) [
      | None ↦ λ k. absurd (cc k)
      | Some u ↦ λ k. absurd (cc k)
    ] h

pub most-met-is-guide : IsGuide most_met
most-met-is-guide = record { picked = most-picked; none = most-none }
