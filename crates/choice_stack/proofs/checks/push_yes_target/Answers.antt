use Rattle.std.proofs.Common.{◌≡◌, ◌++◌, ◌&&◌, ◌∙◌, Bool, true, false, List, [], ◌∷◌, cond, refl, sym, ap}
use Rattle.std.proofs.lemmas.List.{append-nil}
use Rattle.qualified_goals.specs.declared.variable.Var.{Var}
use Rattle.choice_problem.specs.Assignment.{is_yes}
use Rattle.choice_problem.specs.Trail.{value_in}
use Rattle.choice_stack.specs.Stack.{is_owned_by}
use Rattle.choice_stack.proofs.checks.push_yes_target.Goals as goal

-- a demand of another owner, or one that isn't Yes, adds nothing
none-added : (owned yes : Bool) (target : Var) → owned && yes ≡ false → cond yes (cond owned (target ∷ []) []) [] ≡ []
none-added owned false target h = refl
none-added false true target h = refl
none-added true true target h = absurd (cc h)

pub returns-else-is_owned_and_yes : goal.returns-else-is_owned_and_yes
returns-else-is_owned_and_yes c =
    let d = c.args.demand.now in
    let items = c.args.targets.now.items in
    let none = none-added (is_owned_by c.args.owner d) (is_yes (value_in c.args.trail.now) d) d.target (sym c.is_owned_and_yes.ensures ∙ c.if-is_owned_and_yes.false) in
    sym (ap (λ (vs : List Var). items ++ vs) none ∙ append-nil items)
