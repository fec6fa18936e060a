use Rattle.std.proofs.Common.{◌<◌, ◌∙◌, List, Some, sym, ap, subst, length, arith}
use Rattle.std.specs.List.{slice_get}
use Rattle.choice_problem.specs.declared.problem.Demand.{Demand}
use Rattle.goal_links.specs.declared.mentions.Mention.{Mention}
use Rattle.choice_stack.specs.View.{View}
use Rattle.choice_stack.specs.Stack.{demand_at}
use Rattle.choice_stack.proofs.StackLemmas.{marks-targets, length-active}
use Rattle.choice_stack.proofs.Queries.{targets-below, place-below}
use Rattle.choice_stack.proofs.DemandGraphs.{active-at}
use Rattle.choice_stack.proofs.stack.Stack.demand.Goals as goal

pub at-listed-requires : goal.at-listed-requires
at-listed-requires c =
    let s = c.self.inside in
    omega (arith, c.requires, ap (λ (x : View). length x.active) c.self.view_is, length-active s.listed.items s.goals.said)

pub demand_in-requires : goal.demand_in-requires
demand_in-requires c =
    let s = c.self.inside in
    let within : c.args.place < length s.goals.said = omega (arith, c.requires, ap (λ (x : View). length x.active) c.self.view_is, length-active s.listed.items s.goals.said) in
    subst (λ (ds : List Demand). c.at-listed.result.place < length ds) (sym c.as_slice.ensures.value)
    (subst (λ (x : Mention). x.place < length s.listed.items) (sym c.at-listed.ensures)
    (place-below (length s.listed.items) s.goals.said c.args.place c.at-listed.result (targets-below s.listed.items s.goals.said (marks-targets c.self.invariant.levels)) within))

pub returns : goal.returns
returns c =
    let s = c.self.inside in
    let within : c.args.place < length s.goals.said = omega (arith, c.requires, ap (λ (x : View). length x.active) c.self.view_is, length-active s.listed.items s.goals.said) in
    ap (λ (x : View). slice_get x.active c.args.place) (sym c.self.view_is) ∙ active-at s.listed.items s.goals.said c.args.place c.at-listed.result within c.at-listed.ensures
    ∙ ap (λ (ds : List Demand). Some (demand_at ds c.at-listed.result.place)) (sym c.as_slice.ensures.value) ∙ ap Some (sym c.demand_in.ensures)
