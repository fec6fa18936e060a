use Rattle.std.proofs.Common.{◌++◌, ◌∙◌, ℕ, List, [], cond, filter, length, sym, ap, subst, append_assoc}
use Rattle.qualified_goals.specs.declared.variable.Var.{Var}
use Rattle.choice_problem.specs.declared.problem.Demand.{Demand}
use Rattle.choice_problem.specs.Assignment.{is_yes}
use Rattle.choice_problem.specs.Trail.{value_in}
use Rattle.choice_stack.specs.Stack.{AllBelow, demand_at, demands_at, target_by, targets_by}
use Rattle.choice_stack.proofs.Turned.{targets-first}
use Rattle.choice_stack.proofs.checks.yes_targets_at.Goals as goal

pub loop-place-preserved : goal.loop-place-preserved
loop-place-preserved c =
    let listed = c.args.listed.now in
    let owner = c.args.owner in
    let test = λ (k : ℕ). is_yes (value_in c.args.trail.now) (demand_at listed k) in
    let items = c.loop-place.targets.items in
    let place = c.in-Some.place in
    let rest = c.next.new.self in
    let first = c.in-Some.ensures.steps in
    let more = targets_by owner (demands_at listed (filter test rest)) in
    let one = cond (test place) (target_by owner (demand_at listed place)) [] in
    record {
      found =
          c.loop-place.invariant.found ∙ ap (λ (ps : List ℕ). items ++ targets_by owner (demands_at listed (filter test ps))) first
          ∙ ap (λ (vs : List Var). items ++ vs) (targets-first test owner listed place rest)
          ∙ sym (append_assoc items one more)
          ∙ ap (λ (vs : List Var). vs ++ more)
          (sym (c.in_ok-push_yes_target.ensures ∙ ap (λ (d : Demand). items ++ cond (is_yes (value_in c.args.trail.now) d) (target_by owner d) []) c.demand_in.ensures));
      within = (subst (AllBelow (length listed)) first c.loop-place.invariant.within).1;
    }
