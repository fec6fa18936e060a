use Rattle.std.proofs.Common.{◌≡◌, ◌∙◌, ◌∷◌, Option, List, sym, ap, subst, take, None}
use Rattle.qualified_goals.specs.declared.variable.Var.{Var}
use Rattle.choice_problem.specs.Conflict.{first_set, lasting_sets, lasting_set}
use Rattle.validation.specs.View.{View}
use Rattle.validation.specs.Pending.{count_before}
use Rattle.choice_stack.specs.Stack.{front_of}
use Rattle.validation.specs.Verdict.{set_after}
use Rattle.validation.proofs.Weighed.{weighed-lasting}
use Rattle.validation.proofs.state.fault_after.Goals as goal

pub returns-in-Some : goal.returns-in-Some
returns-in-Some c =
    let x = c.in_ok-pending.pending in
    sym (ap (λ (o : Option (List Var)). first_set (o ∷ lasting_sets x.trail x.active)) (sym c.in_ok-set.ensures ∙ c.in-Some.is)) ∙ ap set_after c.in_ok-pending.ensures

pub lasting_fault-requires : goal.lasting_fault-requires
lasting_fault-requires c =
    subst (λ (x : View). lasting_set (front_of x.trail) (take (count_before x) x.active) ≡ None) (sym c.in_ok-pending.ensures)
    (weighed-lasting c.args.stack.now c.args.addition.now.choice c.args.addition.now.demands c.requires.lasting)
