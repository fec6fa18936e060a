use Rattle.std.proofs.Common.{◌∙◌, ap}
use Rattle.demand_agreement.specs.Places.{places_on}
use Rattle.choice_stack.specs.View.{View}
use Rattle.choice_stack.proofs.Queries.{mentions-places}
use Rattle.choice_stack.proofs.StackLemmas.{marks-targets}
use Rattle.choice_stack.proofs.stack.Stack.places_on.Goals as goal

pub returns : goal.returns
returns c =
    let s = c.self.inside in
    c.in_ok-found.ensures ∙ mentions-places 0 c.args.v s.listed.items s.goals.said (marks-targets c.self.invariant.levels)
    ∙ ap (λ (x : View). places_on c.args.v x.active) c.self.view_is
