use Rattle.std.proofs.Common.{◌≡◌, ◌∙◌, ◌++◌, List, Option, Some, None, IfSome, cond, sym, ap, subst, option_to_list}
use Rattle.choice_problem.specs.declared.problem.Choice.{Choice}
use Rattle.choice_problem.specs.Trail.{value_in}
use Rattle.choice_problem.proofs.TrailEnds.{value-push}
use Rattle.choice_problem.proofs.values.Values.value_of.Goals as goal

pub returns-then-is_same : goal.returns-then-is_same
returns-then-is_same c =
    let trail = c.self.inside.trail.now in
    let last = c.in-Some.c in
    let free : value_in trail last.var ≡ None = subst (λ (o : Option Choice). IfSome o (λ d. value_in trail d.var ≡ None)) c.in-Some.is c.self.invariant in
    sym (
    ap (λ (t : List Choice). value_in t c.args.v) (sym c.self.view_is) ∙ ap (λ (o : Option Choice). value_in (trail ++ option_to_list o) c.args.v) c.in-Some.is
    ∙ value-push trail last c.args.v free ∙ ap (λ b. cond b (Some last.val) (value_in trail c.args.v)) (sym c.is_same.ensures ∙ c.if-is_same.true))

pub returns : goal.returns
returns c =
    let trail = c.self.inside.trail.now in
    let last = c.in-Some.c in
    let free : value_in trail last.var ≡ None = subst (λ (o : Option Choice). IfSome o (λ d. value_in trail d.var ≡ None)) c.in-Some.is c.self.invariant in
    c.value_of-2.ensures
    ∙ sym (
    ap (λ (t : List Choice). value_in t c.args.v) (sym c.self.view_is) ∙ ap (λ (o : Option Choice). value_in (trail ++ option_to_list o) c.args.v) c.in-Some.is
    ∙ value-push trail last c.args.v free ∙ ap (λ b. cond b (Some last.val) (value_in trail c.args.v)) (sym c.is_same.ensures ∙ c.if-is_same.false))
