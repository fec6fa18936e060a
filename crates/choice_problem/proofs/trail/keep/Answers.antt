use Rattle.std.proofs.Common.{◌≡◌, ◌∙◌, true, false, cond, Some, None, refl, sym, ap}
use Rattle.qualified_goals.specs.Variable.{same_var}
use Rattle.qualified_goals.specs.SameVariable.{same_var-is}
use Rattle.choice_problem.specs.Table.{entry}
use Rattle.choice_problem.proofs.trail.keep.Goals as goal

-- what was set and taken out again leaves the table as it was
pub returns-then-is_err-clause-no_value : goal.returns-then-is_err-clause-no_value
returns-then-is_err-clause-no_value c v =
    let old = entry c.args.values.now in
    c.remove.ensures v
    ∙ ap (λ o. cond (same_var c.args.c.var v) None o) (c.in_ok-set.ensures.ok v)
    ∙ elim (same_var c.args.c.var v) as (λ b. same_var c.args.c.var v ≡ b → cond b None (cond b (Some c.args.c.val) (old v)) ≡ old v) [
      | true ↦ λ same. sym (ap old (sym (same_var-is c.args.c.var v same)) ∙ c.requires)
      | false ↦ λ other. refl
    ] refl
