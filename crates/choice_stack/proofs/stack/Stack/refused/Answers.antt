use Rattle.std.proofs.Common.{◌≡◌, ◌∙◌, ℕ, List, sym, ap, find}
use Rattle.std.specs.Option.{option_map}
use Rattle.choice_problem.specs.declared.problem.Demand.{Demand}
use Rattle.choice_problem.specs.Conflict.{refuses, set_of_first}
use Rattle.choice_stack.specs.View.{View}
use Rattle.choice_stack.specs.Stack.{demand_at, demands_at}
use Rattle.choice_stack.proofs.StackLemmas.{marks-targets}
use Rattle.choice_stack.proofs.Queries.{places-below, find-on, refuses-only}
use Rattle.choice_stack.proofs.stack.Stack.refused.Goals as goal

pub first_refusing-first-requires : goal.first_refusing-first-requires
first_refusing-first-requires c =
    let s = c.self.inside in
    places-below c.args.c.var s.listed.items c.as_slice.result.now s.goals.said c.places-places.result (marks-targets c.self.invariant.levels) c.as_slice.ensures.value
    c.places-places.ensures

pub returns : goal.returns
returns c =
    let s = c.self.inside in
    let same : c.as_slice-2.result.now ≡ c.as_slice.result.now = c.as_slice-2.ensures.value ∙ sym c.as_slice.ensures.value in
    c.in_ok-set.ensures
    ∙ ap (λ (ds : List Demand). set_of_first (option_map (demand_at ds) c.first_refusing-first.result)) same
    ∙ ap set_of_first (sym c.first_refusing-first.ensures.found)
    ∙ ap (λ (ds : List Demand). set_of_first (find (refuses c.args.c) (demands_at ds c.places-places.result))) c.as_slice.ensures.value
    ∙ ap (λ (ps : List ℕ). set_of_first (find (refuses c.args.c) (demands_at s.listed.items ps))) c.places-places.ensures
    ∙ ap set_of_first (sym (find-on (refuses c.args.c) s.listed.items c.args.c.var s.goals.said (marks-targets c.self.invariant.levels) (refuses-only c.args.c)))
    ∙ ap (λ (x : View). set_of_first (find (refuses c.args.c) x.active)) c.self.view_is
