use Rattle.std.proofs.Common.{IfSome, List, drop, subst, ap, ◌∙◌}
use Rattle.qualified_goals.specs.declared.variable.Var.{Var}
use Rattle.choice_problem.specs.ConflictSet.{has}
use Rattle.goal_links.proofs.VariableKeys.{found-has}
use Rattle.demand_cycles.specs.VarSet.{IsIndexOf}
use Rattle.demand_cycles.proofs.Keys.{scanned}
use Rattle.demand_cycles.proofs.var_set.VarSet.is_among_others.Goals as goal

pub returns-in-Some : goal.returns-in-Some
returns-in-Some c =
    let v = c.args.v in
    let others = c.self.inside.others.items in
    let is = subst (λ o. IfSome o (λ index. IsIndexOf others index.value.keys)) c.in-Some.is c.self.invariant in
    c.contains.ensures ∙ found-has c.deref.result.now.keys v ∙ ap (λ s. has s.keys v) c.deref.ensures ∙ is v ∙ ap (λ (l : List Var). has (drop 1 l) v) c.self.view_is

pub returns-in-None : goal.returns-in-None
returns-in-None c =
    let v = c.args.v in
    c.contains-in-None.ensures.value ∙ scanned c.as_slice.result.now v ∙ ap (λ l. has l v) c.as_slice.ensures.value
    ∙ ap (λ (l : List Var). has (drop 1 l) v) c.self.view_is
