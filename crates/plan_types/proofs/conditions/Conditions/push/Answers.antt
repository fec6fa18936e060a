use Rattle.std.proofs.Common.{◌++◌, [], ◌∷◌, List, ap, ◌∙◌, sym}
use Rattle.plan_types.specs.Conditions.{cond_of, conds_of}
use Rattle.plan_types.specs.declared.condition.Cond.{Cond}
use Rattle.plan_types.proofs.ConditionTables.{pushed-row}
use Rattle.plan_types.proofs.conditions.Conditions.push.Goals as goal

pub invariant_of-self-in-Ok : goal.invariant_of-self-in-Ok
invariant_of-self-in-Ok c =
    let row = c.args.row in
    let guards = c.self.inside.guards in
    let guard_is = c.in_ok-guard.ensures ∙ ap (λ (conds : List Cond). cond_of conds row) (sym c.self.view_is) in
    ap conds_of c.in-Ok.ensures.ok ∙ pushed-row [] c.self.inside.rows row
    ∙ ap (λ (conds : List Cond). conds ++ cond_of conds row ∷ []) c.self.invariant
    ∙ ap (λ (cond : Cond). guards ++ cond ∷ []) (sym guard_is)
    ∙ sym c.in_ok-push.ensures.ok
