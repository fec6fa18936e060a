-- an open target is that of an active demand
use Rattle.std.proofs.Common.{◌∙◌, sym, ap, map, filter}
use Rattle.choice_problem.specs.declared.problem.Demand.{Demand}
use Rattle.choice_problem.specs.Active.{is_waited_for, waiting}
use Rattle.choice_problem.specs.ConflictSet.{has}
use Rattle.choice_problem.proofs.VariableSets.{has-set_of}
use Rattle.goal_links.specs.Mentions.{places_of}
use Rattle.choice_stack.specs.Stack.{demands_at}
use Rattle.choice_stack.specs.View.{View}
use Rattle.choice_stack.proofs.StackLemmas.{marks-targets}
use Rattle.choice_stack.proofs.Queries.{waiting-has}
use Rattle.choice_stack.proofs.stack.Stack.is_open.Goals as goal

pub returns : goal.returns
returns c =
    let s = c.self.inside in
    let targets = map (λ (d : Demand). d.target) (filter (is_waited_for s.trail) (demands_at s.listed.items (places_of s.goals.said))) in
    c.is_open.ensures
    ∙ sym (has-set_of targets c.args.v ∙ waiting-has s.trail s.listed.items s.goals.said c.args.v (marks-targets c.self.invariant.levels))
    ∙ ap (λ (x : View). has (waiting x.trail x.active) c.args.v) c.self.view_is
