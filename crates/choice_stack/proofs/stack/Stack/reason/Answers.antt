use Rattle.std.proofs.Common.{◌∙◌, ℕ, List, ap, find}
use Rattle.std.specs.List.{slice_get}
use Rattle.std.specs.Option.{option_map}
use Rattle.choice_problem.specs.declared.problem.Demand.{Demand}
use Rattle.choice_problem.specs.Active.{asks_for, vars_of_first}
use Rattle.choice_problem.specs.ConflictSet.{set_of}
use Rattle.choice_stack.specs.View.{View}
use Rattle.choice_stack.specs.Stack.{demand_at, demands_at}
use Rattle.choice_stack.proofs.StackLemmas.{marks-targets}
use Rattle.choice_stack.proofs.Queries.{places-below, find-asks, first-below, first-yielded}
use Rattle.choice_stack.proofs.stack.Stack.reason.Goals as goal

pub reason_at-requires : goal.reason_at-requires
reason_at-requires c =
    let s = c.self.inside in
    first-below _ c.places.result c.next-first.result _ c.next-first.ensures.steps
    (places-below c.args.v s.listed.items c.as_slice.result.now s.goals.said c.places.result (marks-targets c.self.invariant.levels) c.as_slice.ensures.value
    c.places.ensures)

pub returns : goal.returns
returns c =
    let s = c.self.inside in
    c.in_ok-set.ensures
    ∙ ap (λ (ds : List Demand). set_of (vars_of_first (option_map (demand_at ds) c.next-first.result))) c.as_slice.ensures.value
    ∙ ap (λ o. set_of (vars_of_first o)) (first-yielded s.listed.items c.places.result c.next-first.result _ c.next-first.ensures.steps)
    ∙ ap (λ (ps : List ℕ). set_of (vars_of_first (slice_get (demands_at s.listed.items ps) 0))) c.places.ensures
    ∙ ap (λ o. set_of (vars_of_first o)) (find-asks s.listed.items c.args.v s.goals.said (marks-targets c.self.invariant.levels))
    ∙ ap (λ (x : View). set_of (vars_of_first (find (asks_for c.args.v) x.active))) c.self.view_is
