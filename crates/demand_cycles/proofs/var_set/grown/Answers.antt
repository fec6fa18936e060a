use Rattle.std.proofs.Common.{IfSome, subst, sym, ap, ◌∙◌}
use Rattle.choice_problem.specs.ConflictSet.{has}
use Rattle.demand_cycles.specs.VarSet.{IsIndexOf}
use Rattle.demand_cycles.proofs.Keys.{index-more, index-whole, inserted}
use Rattle.demand_cycles.proofs.var_set.grown.Goals as goal
use Rattle.demand_cycles.proofs.var_set.grown.Goals.{in-Some, in-None-2+in_ok-index-in-None-2}

pub returns : goal.returns
returns c u =
    let vars = c.args.vars.now in
    let keys = c.deref_mut.result.now.keys in
    let is : IsIndexOf vars keys = subst (λ s. IsIndexOf vars s.keys) (sym c.deref_mut.ensures.value) (elim c.match-index.branch [
      | in-Some w ↦ subst (λ b. IsIndexOf vars b.value.keys) (sym w.index-is) (subst (λ o. IfSome o (λ index. IsIndexOf vars index.value.keys)) w.in-Some.is c.requires)
      | in-None-2+in_ok-index-in-None-2 w ↦
          subst (λ b. IsIndexOf vars b.value.keys) (sym w.index-is) (subst (IsIndexOf vars) (sym w.in_ok-index-in-None-2.ensures) (index-whole vars))
    ]) in
    ap (λ l. has l u) (c.in_ok-insert.ensures.keys ∙ inserted keys c.args.v) ∙ index-more vars keys c.args.v is u
