use Rattle.std.proofs.Common.{◌∙◌, List, ap}
use Rattle.std.specs.List.{list_any}
use Rattle.choice_problem.specs.ConflictSet.{has}
use Rattle.goal_links.specs.declared.mentions.Mention.{Mention}
use Rattle.choice_stack.specs.View.{View}
use Rattle.goal_links.specs.Mentions.{vars_at}
use Rattle.choice_stack.specs.Stack.{names}
use Rattle.choice_stack.proofs.DemandGraphs.{waits-has}
use Rattle.choice_stack.proofs.stack.Stack.names.Goals as goal

pub returns : goal.returns
returns c =
    let s = c.self.inside in
    c.names.ensures ∙ ap (λ (ms : List Mention). has (vars_at ms) c.args.v) c.self.invariant.waiting ∙ waits-has 0 c.args.v s.listed.items
    ∙ ap (λ (x : View). list_any (names c.args.v) x.listed) c.self.view_is
