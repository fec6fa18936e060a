use Rattle.std.proofs.Common.{◌≡◌, ◌∙◌, ◌∷◌, [], Option, List, sym, ap, subst, take, ℕ}
use Rattle.qualified_goals.specs.declared.variable.Var.{Var}
use Rattle.choice_problem.specs.Conflict.{circular, first_set, agreement_set}
use Rattle.choice_problem.proofs.ConflictLemmas.{lasting-agree, lasting-circular}
use Rattle.validation.specs.Pending.{count_before}
use Rattle.choice_stack.specs.Stack.{front_of}
use Rattle.validation.proofs.state.lasting_fault.Goals as goal

pub cycle_set_of-requires : goal.cycle_set_of-requires
cycle_set_of-requires c =
    let x = c.args.pending.now in
    subst (λ (n : ℕ). circular (take n x.active) ≡ []) (sym c.before-before.ensures) (lasting-circular (front_of x.trail) (take (count_before x) x.active) c.requires)

pub returns-in-Some : goal.returns-in-Some
returns-in-Some c =
    let x = c.args.pending.now in
    ap (λ (o : Option (List Var)). first_set (o ∷ agreement_set x.trail x.active ∷ [])) (sym c.in-Some.is ∙ c.in_ok-set.ensures)

pub disagreement-requires : goal.disagreement-requires
disagreement-requires c =
    let x = c.args.pending.now in
    lasting-agree (front_of x.trail) (take (count_before x) x.active) c.requires
